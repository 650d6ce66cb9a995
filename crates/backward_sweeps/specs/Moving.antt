-- The tree before what is done at a label, for all next states, by the trees of the labels that follow.
use Rattle.std.specs.Prelude.{◌≤◌, pos, List, ⊤}
use Rattle.linear_cons.specs.Functions.{constant_of}
use Rattle.linear_cons.specs.declared.row.Row.{Row}
use Rattle.decision_tree.specs.Plans.{Plan, bottom, leaf, size_of}
use Rattle.decision_tree.specs.declared.affine_rank.AffineRank.{AffineRank}
use Rattle.decision_tree.specs.declared.reason.Why.{Why}
use Rattle.decision_tree.specs.declared.reason.Why.TheVariants.{Dead as NeverReached}
use Rattle.backward_transfer.specs.AffineShapes.{CutFits, affine_ranks, assigned_shape, cut, ranged_shape, same_rank, stepped_shape, tested_shape}
use Rattle.backward_transfer.specs.Ranges.{AreSmall, RangeFits}
use Rattle.backward_transfer.specs.Steps.{AssignFits, StepFits}
use Rattle.backward_transfer.specs.Tests.{ComplementFits, EnabledFits, IsLaterSmall, TestAsks}
use Rattle.control_flow.specs.declared.transition.Transition.{Transition}
use Rattle.control_flow.specs.declared.transition.Transition.TheVariants.{Assign, Choose, Dead, End, Pass, Test}

-- the rank of a claim that needs no step
abbrev pub nought : AffineRank
nought = record { value = constant_of (pos 0) }

-- such a claim, for the reason
abbrev pub at_once : Why → Plan AffineRank
at_once why = leaf why nought

-- The tree before what is done, for all next states. Where no run comes everything is claimed; behind the end nothing follows.
abbrev pub before_all : Transition → Plan AffineRank → Plan AffineRank → Plan AffineRank
before_all End this that = bottom
before_all Dead this that = at_once NeverReached
before_all (Pass to) this that = cut (stepped_shape this)
before_all (Assign place value to) this that = cut (assigned_shape place.number value this)
before_all (Choose place range choice cases to) this that = cut (ranged_shape place.number range this)
before_all (Test head choice holds fails to other) this that = cut (tested_shape this that holds.items fails.items)

-- before a test: the trees that are formed on the way have at most 65,536 nodes, and the numbers fit
abbrev pub AreTestsSmall : Plan AffineRank → Plan AffineRank → List (List Row) → List (List Row) → Type 0
AreTestsSmall this that holds fails =
    TestAsks (λ row. ⊤) (IsLaterSmall same_rank affine_ranks.where_greater affine_ranks.greater_fits this that) fails holds
    × (size_of (tested_shape this that holds fails) ≤ 65536)

abbrev pub TestsFit : Plan AffineRank → Plan AffineRank → List (List Row) → List (List Row) → Type 0
TestsFit this that holds fails =
    TestAsks ComplementFits
    (EnabledFits same_rank affine_ranks.where_greater affine_ranks.greater_fits affine_ranks.one_more affine_ranks.add_one_fits this that) fails holds
    × CutFits (tested_shape this that holds fails)

-- each tree that is formed on the way has at most 65,536 nodes
abbrev pub AreAllSmall : Transition → Plan AffineRank → Plan AffineRank → Type 0
AreAllSmall (Pass to) this that = size_of (stepped_shape this) ≤ 65536
AreAllSmall (Assign place value to) this that = size_of (assigned_shape place.number value this) ≤ 65536
AreAllSmall (Choose place range choice cases to) this that =
    AreSmall same_rank affine_ranks.where_greater affine_ranks.greater_fits affine_ranks.trend affine_ranks.substituted affine_ranks.one_more
    65536 place.number range this
AreAllSmall (Test head choice holds fails to other) this that = AreTestsSmall this that holds.items fails.items
AreAllSmall transition this that = ⊤

-- each function, rank, difference of ranks and complement that is formed on the way fits
abbrev pub AllFit : Transition → Plan AffineRank → Plan AffineRank → Type 0
AllFit (Pass to) this that = StepFits affine_ranks.add_one_fits this × CutFits (stepped_shape this)
AllFit (Assign place value to) this that =
    AssignFits affine_ranks.substituted affine_ranks.subst_fits affine_ranks.add_one_fits place.number value this
    × CutFits (assigned_shape place.number value this)
AllFit (Choose place range choice cases to) this that =
    RangeFits same_rank affine_ranks.where_greater affine_ranks.greater_fits affine_ranks.trend affine_ranks.substituted affine_ranks.one_more
    affine_ranks.subst_fits affine_ranks.add_one_fits place.number range this
    × CutFits (ranged_shape place.number range this)
AllFit (Test head choice holds fails to other) this that = TestsFit this that holds.items fails.items
AllFit transition this that = ⊤
