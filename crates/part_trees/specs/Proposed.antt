-- The trees that are proposed for a formula, by those of its parts.
use Rattle.std.specs.Prelude.{ℕ, Bool, false, List, [], map, Option, None, Some, slice_get}
use Rattle.ctl_formula.specs.declared.formula.Formula.{Formula, Next', Until', Weak'}
use Rattle.decision_tree.specs.Plans.{Plan}
use Rattle.decision_tree.specs.declared.affine_rank.AffineRank.{AffineRank}
use Rattle.decision_tree.specs.declared.family.Family.{Family}
use Rattle.decision_tree.specs.declared.reason.Why.TheVariants.{Now}
use Rattle.backward_sweeps.specs.Claiming.{claimed, reranked}
use Rattle.control_flow.specs.Transitions.{HasNoHead}
use Rattle.backward_sweeps.specs.Remaking.{AreEndsGiven, AreEndsStarted, AreRemadeFrom, Parts}
use Rattle.control_flow.specs.declared.transition.Transition.{Transition}
use Rattle.part_trees.specs.Local.{AreLocal}
use Rattle.part_trees.specs.Next.{AreNexts}

-- the trees of the part with the number; none where it is missing
abbrev pub trees_in : Option (Family AffineRank) → List (Plan AffineRank)
trees_in None = []
trees_in (Some family) = family.trees

abbrev pub operand : List (Family AffineRank) → ℕ → List (Plan AffineRank)
operand families number = trees_in (slice_get families number)

-- what an until is made of: the goal's claims for the reason that it holds now, and those of what is to be kept for their own
abbrev pub until_of : Bool → List (Plan AffineRank) → List (Plan AffineRank) → Parts
until_of all keeps goals = record { all = all; goals = map (claimed Now) goals; keeps = map reranked keeps }

-- The trees of an until: at the end what the goal claims; and in a program without loops each other is made of those behind it.
abbrev pub AreSweptFor : Bool → List (Plan AffineRank) → List (Plan AffineRank) → List Transition → List (Plan AffineRank) → Type 0
AreSweptFor all keeps goals transitions trees =
    AreEndsGiven (until_of all keeps goals) transitions trees
    × (HasNoHead transitions → AreRemadeFrom 0 false (until_of all keeps goals) transitions trees)

-- Those of a weak until: at the end what the goal claims, or else what is to be kept; and the others in the same way.
abbrev pub AreKeptFor : Bool → List (Plan AffineRank) → List (Plan AffineRank) → List Transition → List (Plan AffineRank) → Type 0
AreKeptFor all keeps goals transitions trees =
    AreEndsStarted (until_of all keeps goals) transitions trees
    × (HasNoHead transitions → AreRemadeFrom 0 false (until_of all keeps goals) transitions trees)

-- the trees of a formula, by those of its first and its second part
abbrev pub AreProposed : Formula → List Transition → List (Plan AffineRank) → List (Plan AffineRank) → List (Plan AffineRank) → Type 0
AreProposed (Next' all p f) transitions first second trees = AreNexts all transitions first trees
AreProposed (Until' all p f q g) transitions first second trees = AreSweptFor all first second transitions trees
AreProposed (Weak' all p f q g) transitions first second trees = AreKeptFor all first second transitions trees
AreProposed formula transitions first second trees = AreLocal formula transitions first second trees
