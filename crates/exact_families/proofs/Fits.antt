-- Where the numbers of a family fit, so that its systems are formed whole.
use Rattle.std.specs.Prelude.{◌≡◌, ℕ, Bool, All, Contains, Option, ⊤}
use Rattle.linear_cons.specs.declared.affine.Affine.{Affine}
use Rattle.linear_cons.specs.Functions.{NumbersFit, complement_of}
use Rattle.decision_tree.specs.Paths.{leaf_numbered}
use Rattle.decision_tree.specs.Plans.{Plan, bottom, branch, leaf, top}
use Rattle.decision_tree.specs.declared.affine_rank.AffineRank.{AffineRank}
use Rattle.decision_tree.specs.declared.reason.Pick.TheVariants.{Value}
use Rattle.decision_tree.specs.declared.reason.Why.{Why}
use Rattle.decision_tree.specs.declared.reason.Why.TheVariants.{Step}
use Rattle.ctl_formula.specs.Formulas.{Ctl, truth, falsity, exit, not_exit, always, never, least, negation, both, either, next, until, weak}
use Rattle.control_flow.specs.declared.edge.Choice.TheVariants.{Branch}
use Rattle.tree_support.specs.Certificates.{affine_ranks}
use Rattle.tree_support.specs.Arcs.{Arc, rows_given}
use Rattle.constraint_stack.specs.Forming.{Formed, FormsWhole, given}
use Rattle.tree_support.specs.Setting.{Setting, Trees}
use Rattle.constraint_stack.specs.Claims.{ClaimFits, exceeding, unnatural}
use Rattle.tree_support.specs.Systems.{moved_by}

-- each row, and its complement, is moved without leaving 128 bits
abbrev pub RowsFit : (Affine → Formed) → Plan AffineRank → Type 0
RowsFit moved (branch row this that) =
    FormsWhole (moved row.affine) × FormsWhole (moved (complement_of row.affine)) × RowsFit moved this × RowsFit moved that
RowsFit moved bottom = ⊤
RowsFit moved (top cause) = ⊤
RowsFit moved (leaf why rank) = ⊤

-- something holds of each leaf
abbrev pub EachEnd : (Plan AffineRank → Type 0) → Plan AffineRank → Type 0
EachEnd P (branch row this that) = EachEnd P this × EachEnd P that
EachEnd P bottom = P bottom
EachEnd P (top cause) = P (top cause)
EachEnd P (leaf why rank) = P (leaf why rank)

-- a leaf's rank is compared without leaving 128 bits
abbrev pub ExceedingFits : Option (ℕ × Affine) → AffineRank → Plan AffineRank → Type 0
ExceedingFits sets rank (leaf why other) = ClaimFits affine_ranks (exceeding other sets rank)
ExceedingFits sets rank bottom = ⊤
ExceedingFits sets rank (top cause) = ⊤
ExceedingFits sets rank (branch row this that) = ⊤

module _ (at : Setting AffineRank) (family : Trees AffineRank) where
  -- so are the rows of an arc, and those of the tree behind it, with its ranks for an until
  abbrev pub ArcFits : AffineRank → Ctl → Arc → Type 0
  ArcFits rank (next all f) arc = All FormsWhole arc.asks × RowsFit (moved_by arc.sets) (at.parts 0 arc.target)
  ArcFits rank (until all f g) arc =
      All FormsWhole arc.asks × RowsFit (moved_by arc.sets) (family arc.target) × EachEnd (ExceedingFits arc.sets rank) (family arc.target)
  ArcFits rank (weak all f g) arc = All FormsWhole arc.asks × RowsFit (moved_by arc.sets) (family arc.target)
  ArcFits rank truth arc = ⊤
  ArcFits rank falsity arc = ⊤
  ArcFits rank exit arc = ⊤
  ArcFits rank not_exit arc = ⊤
  ArcFits rank always arc = ⊤
  ArcFits rank never arc = ⊤
  ArcFits rank (least a) arc = ⊤
  ArcFits rank (negation f) arc = ⊤
  ArcFits rank (both f g) arc = ⊤
  ArcFits rank (either f g) arc = ⊤

  -- at this leaf
  abbrev pub StandsAt : ℕ → ℕ → Why → AffineRank → Type 0
  StandsAt label place why rank = leaf_numbered (family label) place ≡ leaf why rank

  -- the numbers of all that the family's systems are formed of fit, and no leaf is for a value that is picked
  pub record AreFit : Type 0 where
    pub rows : (label : ℕ) → All FormsWhole (rows_given (at.rows label))
    pub own : (label : ℕ) → RowsFit given (family label)
    pub parts : (n label : ℕ) → RowsFit given (at.parts n label)
    pub atom : (a : Affine) → at.formula ≡ least a → NumbersFit (complement_of a)
    pub arcs : (label place : ℕ) (why : Why) (rank : AffineRank) → StandsAt label place why rank → (arc : Arc) → Contains (at.flow.arcs label) arc
        → ArcFits rank at.formula arc
    pub arcs_of : (label place : ℕ) (why : Why) (rank : AffineRank) → StandsAt label place why rank → at.flow.choice label ≡ Branch
        → (outcome : Bool) (arc : Arc) → Contains (at.flow.arcs_of label outcome) arc → ArcFits rank at.formula arc
    pub natural : (label place : ℕ) (why : Why) (rank : AffineRank) → StandsAt label place why rank → ClaimFits affine_ranks (unnatural rank)
    pub whys : (label place : ℕ) (why : Why) (rank : AffineRank) → StandsAt label place why rank → (a : Affine) → why ≡ Step (Value a) → ⊥
