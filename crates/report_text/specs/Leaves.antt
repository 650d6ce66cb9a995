-- The lines of a tree: one for each leaf, but for leaves whose condition is known to be met nowhere.
use Rattle.std.specs.Prelude.{◌≡◌, ◌⊎◌, ℤ, List, [], ◌∷◌, ◌++◌, filter, Bool, true, false, not, ⊤}
use Rattle.linear_cons.specs.declared.affine.Affine.{Affine}
use Rattle.linear_cons.specs.Functions.{IsConstant, complement_of}
use Rattle.linear_cons.specs.Rows.{MeetsAll}
use Rattle.integer_point.specs.Hard.{MayHaveStore}
use Rattle.linear_cons.specs.Tightest.{AreTightest}
use Rattle.decision_tree.specs.declared.affine_rank.AffineRank.{AffineRank}
use Rattle.decision_tree.specs.Plans.{Plan, bottom, top, leaf, branch}
use Rattle.decision_tree.specs.Paths.{MeetsPath}
use Rattle.line_text.specs.declared.claim.Claim.{Claim}
use Rattle.line_text.specs.declared.claim.Claim.TheVariants.{Exactly, Within, Holds, Fits as FitsClaim, Unknown}
use Rattle.report_text.specs.declared.line.Line.{Line}
use Rattle.report_text.specs.declared.line.Top.{Top}
use Rattle.report_text.specs.declared.line.Top.TheVariants.{Exact, Bound, Plain, Fits}

-- what a defined leaf claims by its rank
abbrev pub claim_of : Top → AffineRank → Claim
claim_of Exact rank = Exactly rank.value.constant
claim_of Bound rank = Within rank.value
claim_of Plain rank = Holds
claim_of Fits rank = FitsClaim

-- what a leaf claims, by what one of a rank does: an undefined one nothing
abbrev pub claim_by : {R : Type 0} → (R → Claim) → Plan R → Claim
claim_by claims bottom = Unknown
claim_by claims (top cause) = Unknown
claim_by claims (leaf why rank) = claims rank
claim_by claims (branch row this that) = Unknown

abbrev pub claim_at : Top → Plan AffineRank → Claim
claim_at claims end = claim_by (claim_of claims) end

-- nothing is claimed
abbrev pub is_unknown : Claim → Bool
is_unknown Unknown = true
is_unknown _ = false

-- of the lines those that claim something, and those that claim nothing
abbrev pub claiming : List Line → List Line
claiming lines = filter (λ line. not (is_unknown line.claim)) lines

abbrev pub claiming_nothing : List Line → List Line
claiming_nothing lines = filter (λ line. is_unknown line.claim) lines

-- no store meets the functions of the path
abbrev pub IsMetNowhere : List Affine → Type 0
IsMetNowhere path = (store : List ℤ) → MeetsPath store path → ⊥

-- the line of a leaf: the tightest rows of its path, and its claim
pub record IsLineOf (path : List Affine) (claim : Claim) (line : Line) : Type 0 where
  pub rows : AreTightest path line.rows
  pub claims : line.claim ≡ claim
  pub stands : MayHaveStore line.rows

-- the leaves of a tree below the functions of a path, in their order: each with the functions of its own path and with what it claims
abbrev pub leaves_below : {R : Type 0} → (R → Claim) → List Affine → Plan R → List (List Affine × Claim)
leaves_below claims above bottom = (above, Unknown) ∷ []
leaves_below claims above (top cause) = (above, Unknown) ∷ []
leaves_below claims above (leaf why rank) = (above, claims rank) ∷ []
leaves_below claims above (branch row this that) =
    leaves_below claims (above ++ row.affine ∷ []) this ++ leaves_below claims (above ++ complement_of row.affine ∷ []) that

-- the lines of leaves, in their order: a leaf has one line, or none since no store meets its path
pub data AreLines : List (List Affine × Claim) → List Line → Type 0 where
  none : AreLines [] []
  skipped : {path : List Affine} {claim : Claim} {leaves : List (List Affine × Claim)} {lines : List Line} → IsMetNowhere path
      → AreLines leaves lines → AreLines ((path, claim) ∷ leaves) lines
  stands : {path : List Affine} {claim : Claim} {line : Line} {leaves : List (List Affine × Claim)} {lines : List Line}
      → IsLineOf path claim line → AreLines leaves lines → AreLines ((path, claim) ∷ leaves) (line ∷ lines)

-- the lines of all leaves of the tree
abbrev pub AreLinesOf : Top → Plan AffineRank → List Line → Type 0
AreLinesOf claims plan lines = AreLines (leaves_below (claim_of claims) [] plan) lines

-- each rank is a constant, which is asked where a number of steps is to be exact
abbrev pub HasConstantRanks : Plan AffineRank → Type 0
HasConstantRanks (leaf why rank) = IsConstant rank.value
HasConstantRanks (branch row this that) = HasConstantRanks this × HasConstantRanks that
HasConstantRanks _ = ⊤

-- none of the list is met, and exactly one of it is, which is such
abbrev pub NoneOf : {X : Type 0} → (X → Type 0) → List X → Type 0
NoneOf Met [] = ⊤
NoneOf Met (first ∷ rest) = (¬ Met first) × NoneOf Met rest

abbrev pub OneOf : {X : Type 0} → (X → Type 0) → (X → Type 0) → List X → Type 0
OneOf Met Is [] = ⊥
OneOf Met Is (first ∷ rest) = (Met first × Is first × NoneOf Met rest) ⊎ ((¬ Met first) × OneOf Met Is rest)

-- the store meets the rows of exactly one line, which has the claim
abbrev pub MeetsOneLine : List ℤ → Claim → List Line → Type 0
MeetsOneLine store claim lines = OneOf (λ line. MeetsAll store line.rows) (λ line. line.claim ≡ claim) lines
