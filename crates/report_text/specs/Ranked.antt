-- What a tree of ordinal ranks tells of stores of which nothing is claimed.
use Rattle.std.specs.Prelude.{◌≡◌, ◌⊎◌, ℤ, false, List, [], ◌∷◌, ◌++◌}
use Rattle.linear_cons.specs.Rows.{MeetsAll}
use Rattle.linear_cons.specs.declared.row.Row.{Row}
use Rattle.decision_tree.specs.Evaluation.{eval}
use Rattle.decision_tree.specs.Plans.{Plan, bottom, branch, is_defined, leaf, top}
use Rattle.decision_tree.specs.declared.affine_rank.AffineRank.{AffineRank}
use Rattle.tree_unify.specs.Shapes.{trimmed}
use Rattle.ordinal_rank.specs.contracts.ordinal.OrdinalRankPartialEq.TheImpl as rank_eq
use Rattle.ordinal_rank.specs.Ordinals.{functions_of as functions_of_rank}
use Rattle.ordinal_rank.specs.declared.ordinal.OrdinalRank.{OrdinalRank}
use Rattle.line_text.specs.LineText.{functions_of}
use Rattle.line_text.specs.declared.claim.Claim.{Claim}
use Rattle.line_text.specs.declared.claim.Claim.TheVariants.{Ranked, Unknown}
use Rattle.report_text.specs.declared.line.Line.{Line}
use Rattle.report_text.specs.declared.line.Top.{Top}
use Rattle.report_text.specs.Leaves.{AreLines, claim_by, claim_of, leaves_below}

-- what a leaf claims by its ordinal rank
abbrev pub ordinal_claim : OrdinalRank → Claim
ordinal_claim rank = Ranked (functions_of_rank rank)

-- what is claimed of a store: what the leaf of a first tree does where it stands, and where that is undefined what that of a tree of ordinal ranks does
abbrev pub claim_else : Top → Plan AffineRank → Claim → Claim
claim_else claims (leaf why rank) other = claim_of claims rank
claim_else claims bottom other = other
claim_else claims (top cause) other = other
claim_else claims (branch row this that) other = other

abbrev pub claim_of_both : Top → Plan AffineRank → Plan OrdinalRank → List ℤ → Claim
claim_of_both claims first ranked store = claim_else claims (eval first store) (claim_by ordinal_claim (eval ranked store))

-- the tree trimmed by the rows; where no trimmed one is made, the tree itself
abbrev pub IsTrimmedBy : List Row → Plan OrdinalRank → Plan OrdinalRank → Type 0
IsTrimmedBy rows ranked tree = (tree ≡ trimmed (rank_eq.ghosts).eq rows ranked) ⊎ (tree ≡ ranked)

-- What stands for a line by the tree of ordinal ranks: the line, which claims nothing then, where the tree makes no claim at any of its stores; or the
-- lines of the leaves of the tree trimmed by the line's rows, behind these.
pub data IsRefined (ranked : Plan OrdinalRank) (line : Line) : List Line → Type 0 where
  kept : ((store : List ℤ) → MeetsAll store line.rows → is_defined (eval ranked store) ≡ false)
      → IsRefined ranked line (record { rows = line.rows; claim = Unknown } ∷ [])
  parted : {lines : List Line} (tree : Plan OrdinalRank) → IsTrimmedBy line.rows ranked tree
      → AreLines (leaves_below ordinal_claim (functions_of line.rows) tree) lines → IsRefined ranked line lines

-- what stands for all lines, one after the other
pub data AreRefined (ranked : Plan OrdinalRank) : List Line → List Line → Type 0 where
  done : AreRefined ranked [] []
  more : {line : Line} {lines first rest : List Line} → IsRefined ranked line first → AreRefined ranked lines rest
      → AreRefined ranked (line ∷ lines) (first ++ rest)
