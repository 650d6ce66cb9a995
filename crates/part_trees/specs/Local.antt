-- The tree of a part at a label, where it is made of the trees of its own parts at the same label.
use Rattle.std.specs.Prelude.{◌≡◌, ℕ, ◌<◌, ◌≤◌, Bool, true, false, List, length}
use Rattle.linear_cons.specs.declared.row.RowKind.{RowKind}
use Rattle.linear_cons.specs.declared.row.RowKind.TheVariants.{Always, Never, Row as Kept}
use Rattle.ctl_formula.specs.declared.formula.Formula.{Formula, Not', And', Or', Next', Until', Weak'}
use Rattle.ctl_formula.specs.declared.formula.Formula.TheVariants.{True, False, Exit, NotExit, Holds}
use Rattle.decision_tree.specs.Plans.{Plan, bottom, branch, size_of}
use Rattle.decision_tree.specs.declared.affine_rank.AffineRank.{AffineRank}
use Rattle.decision_tree.specs.declared.reason.Why.TheVariants.{Atom, Both, Dead as NeverReached, End as AtEnd, Left, Right}
use Rattle.backward_transfer.specs.AffineShapes.{tree_at}
use Rattle.backward_sweeps.specs.Claiming.{claimed, reranked}
use Rattle.control_flow.specs.Transitions.{transition_in}
use Rattle.backward_sweeps.specs.Moving.{at_once}
use Rattle.backward_sweeps.specs.Remaking.{BothFit, EitherFits, IsOrTop, both_of, either_of}
use Rattle.control_flow.specs.declared.transition.Transition.{Transition}
use Rattle.control_flow.specs.declared.transition.Transition.TheVariants.{Dead, End}

-- an atom's tree asks its row
abbrev pub kind_tree : RowKind → Plan AffineRank
kind_tree Always = at_once Atom
kind_tree Never = bottom
kind_tree (Kept row) = branch row (at_once Atom) bottom

-- what both parts claim; it is made of their trees with the rank 0
abbrev pub met : Plan AffineRank → Plan AffineRank → Plan AffineRank
met first second = both_of (reranked first) (reranked second)

abbrev pub IsConjunction : Plan AffineRank → Plan AffineRank → Plan AffineRank → Type 0
IsConjunction first second plan =
    IsOrTop (claimed Both (met first second)) (BothFit (reranked first) (reranked second)) (size_of (met first second) ≤ 65536) plan

-- what the left part claims, or else the right one
abbrev pub IsDisjunction : Plan AffineRank → Plan AffineRank → Plan AffineRank → Type 0
IsDisjunction first second plan =
    IsOrTop (either_of (claimed Left first) (claimed Right second)) (EitherFits (claimed Left first) (claimed Right second))
    (size_of (either_of (claimed Left first) (claimed Right second)) ≤ 65536) plan

-- the tree of the end, and of no other label; and of each but the end
abbrev pub end_tree : Bool → Plan AffineRank
end_tree true = at_once AtEnd
end_tree false = bottom

abbrev pub going_tree : Bool → Plan AffineRank
going_tree true = bottom
going_tree false = at_once Atom

-- The tree of the formula at a label to which runs come, by whether that is the end.
abbrev pub IsReached : Formula → Bool → Plan AffineRank → Plan AffineRank → Plan AffineRank → Type 0
IsReached True is_end first second plan = plan ≡ at_once Atom
IsReached False is_end first second plan = plan ≡ bottom
IsReached Exit is_end first second plan = plan ≡ end_tree is_end
IsReached NotExit is_end first second plan = plan ≡ going_tree is_end
IsReached (Holds kind) is_end first second plan = plan ≡ kind_tree kind
IsReached (And' p f q g) is_end first second plan = IsConjunction first second plan
IsReached (Or' p f q g) is_end first second plan = IsDisjunction first second plan
IsReached (Not' p f) is_end first second plan = plan ≡ bottom
IsReached (Next' all p f) is_end first second plan = plan ≡ bottom
IsReached (Until' all p f q g) is_end first second plan = plan ≡ bottom
IsReached (Weak' all p f q g) is_end first second plan = plan ≡ bottom

-- The same at a label at which this is done; where no run comes everything is claimed.
abbrev pub IsLocal : Formula → Transition → Plan AffineRank → Plan AffineRank → Plan AffineRank → Type 0
IsLocal formula Dead first second plan = plan ≡ at_once NeverReached
IsLocal formula End first second plan = IsReached formula true first second plan
IsLocal formula transition first second plan = IsReached formula false first second plan

-- so is the tree of each label, by those of the parts
abbrev pub AreLocal : Formula → List Transition → List (Plan AffineRank) → List (Plan AffineRank) → List (Plan AffineRank) → Type 0
AreLocal formula transitions first second trees =
    (label : ℕ) → label < length transitions
    → IsLocal formula (transition_in transitions label) (tree_at first label) (tree_at second label) (tree_at trees label)
