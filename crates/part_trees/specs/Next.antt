-- The tree of a next at a label, by the trees of its part.
use Rattle.std.specs.Prelude.{◌≡◌, ℕ, ◌<◌, Bool, List, length}
use Rattle.decision_tree.specs.Plans.{Plan}
use Rattle.decision_tree.specs.declared.affine_rank.AffineRank.{AffineRank}
use Rattle.decision_tree.specs.declared.reason.Why.TheVariants.{Now}
use Rattle.backward_transfer.specs.AffineShapes.{tree_at}
use Rattle.backward_sweeps.specs.Claiming.{claimed, reranked}
use Rattle.control_flow.specs.Transitions.{transition_in, first_target, second_target}
use Rattle.backward_sweeps.specs.Before.{BeforeFits, IsBeforeSmall, before}
use Rattle.backward_sweeps.specs.Remaking.{IsOrTop}
use Rattle.control_flow.specs.declared.transition.Transition.{Transition}
use Rattle.control_flow.specs.declared.transition.Transition.TheVariants.{End}

-- what a step claims of the trees behind it
abbrev pub IsStep : Bool → Transition → Plan AffineRank → Plan AffineRank → Plan AffineRank → Type 0
IsStep all transition this that plan = IsOrTop (before all transition this that) (BeforeFits all transition this that) (IsBeforeSmall all transition this that) plan

-- The tree of the label at which this is done: at the end what the part claims, since that is its own next state, and elsewhere what a
-- step claims of the part's trees with the rank 0.
abbrev pub IsNext : Bool → List (Plan AffineRank) → ℕ → Transition → Plan AffineRank → Type 0
IsNext all part label End plan = plan ≡ claimed Now (tree_at part label)
IsNext all part label transition plan =
    IsStep all transition (reranked (tree_at part (first_target transition))) (reranked (tree_at part (second_target transition))) plan

-- so is that of each label
abbrev pub AreNexts : Bool → List Transition → List (Plan AffineRank) → List (Plan AffineRank) → Type 0
AreNexts all transitions part trees =
    (label : ℕ) → label < length transitions → IsNext all part label (transition_in transitions label) (tree_at trees label)

-- the trees below the number with the rank 0
abbrev pub AreReranked : ℕ → List (Plan AffineRank) → List (Plan AffineRank) → Type 0
AreReranked count trees made = (label : ℕ) → label < count → tree_at made label ≡ reranked (tree_at trees label)
