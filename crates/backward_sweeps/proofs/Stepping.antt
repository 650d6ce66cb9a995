-- The tree before what is done is trimmed.
use Rattle.std.proofs.Common.{◌≡◌, ℤ, [], Bool, true, false, Option, refl}
use Rattle.control_flow.specs.declared.edge.Choice.{Choice}
use Rattle.control_flow.specs.declared.edge.Choice.TheVariants.{Branch, None as NoChoice, Range}
use Rattle.decision_tree.specs.Plans.{Plan}
use Rattle.decision_tree.specs.declared.affine_rank.AffineRank.{AffineRank}
use Rattle.backward_transfer.specs.AffineShapes.{assigned_shape, chosen_shape, cut, picked_shape, ranged_shape, same_rank, stepped_shape, tested_shape}
use Rattle.backward_sweeps.specs.Before.{before}
use Rattle.control_flow.specs.Transitions.{choice_in}
use Rattle.backward_sweeps.specs.Moving.{before_all}
use Rattle.backward_sweeps.specs.Picking.{before_choice, before_outcome, before_value}
use Rattle.control_flow.specs.declared.transition.Transition.{Transition}
use Rattle.control_flow.specs.declared.transition.Transition.TheVariants.{Assign, Choose, Dead, End, Pass, Test}
use Rattle.backward_sweeps.proofs.Trimming.{trimmed_again}

all_cut : (transition : Transition) (this that : Plan AffineRank) → cut (before_all transition this that) ≡ before_all transition this that
all_cut End this that = refl
all_cut Dead this that = refl
all_cut (Pass to) this that = trimmed_again same_rank [] (stepped_shape this)
all_cut (Assign place value to) this that = trimmed_again same_rank [] (assigned_shape place.number value this)
all_cut (Choose place range choice cases to) this that = trimmed_again same_rank [] (ranged_shape place.number range this)
all_cut (Test is_head choice holds fails to other) this that = trimmed_again same_rank [] (tested_shape this that holds.items fails.items)

outcome_cut : (transition : Transition) (this that : Plan AffineRank) → cut (before_outcome transition this that) ≡ before_outcome transition this that
outcome_cut (Test is_head choice holds fails to other) this that = trimmed_again same_rank [] (picked_shape this that)
outcome_cut End this that = all_cut End this that
outcome_cut Dead this that = all_cut Dead this that
outcome_cut (Pass to) this that = all_cut (Pass to) this that
outcome_cut (Assign place value to) this that = all_cut (Assign place value to) this that
outcome_cut (Choose place range choice cases to) this that = all_cut (Choose place range choice cases to) this that

value_cut : (lo hi : Option ℤ) (transition : Transition) (this that : Plan AffineRank) → cut (before_value lo hi transition this that) ≡ before_value lo hi transition this that
value_cut lo hi (Choose place range choice cases to) this that = trimmed_again same_rank [] (chosen_shape lo hi place.number this)
value_cut lo hi End this that = all_cut End this that
value_cut lo hi Dead this that = all_cut Dead this that
value_cut lo hi (Pass to) this that = all_cut (Pass to) this that
value_cut lo hi (Assign place value to) this that = all_cut (Assign place value to) this that
value_cut lo hi (Test is_head choice holds fails to other) this that = all_cut (Test is_head choice holds fails to other) this that

choice_cut : (choice : Choice) (transition : Transition) (this that : Plan AffineRank) → cut (before_choice choice transition this that) ≡ before_choice choice transition this that
choice_cut NoChoice transition this that = all_cut transition this that
choice_cut Branch transition this that = outcome_cut transition this that
choice_cut (Range lo hi) transition this that = value_cut lo hi transition this that

pub before_cut : (all : Bool) (transition : Transition) (this that : Plan AffineRank) → cut (before all transition this that) ≡ before all transition this that
before_cut true transition this that = all_cut transition this that
before_cut false transition this that = choice_cut (choice_in transition) transition this that
