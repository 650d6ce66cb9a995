-- What is told at a label by its set.
use Rattle.std.proofs.Common.{◌≡◌, ℕ, Bool, false, List, Some, slice_get, sym, subst}
use Rattle.linear_cons.specs.declared.bounds.Bounds.{Bounds}
use Rattle.linear_cons.specs.declared.row.Row.{Row}
use Rattle.control_flow.specs.Labels.{Action}
use Rattle.control_flow.specs.Told.{no_bounds, told_at, told_by}
use Rattle.control_flow.specs.Transitions.{IsTold}
use Rattle.control_flow.specs.declared.transition.Transition.{Transition}

-- what the set at a label tells
pub told_here : {D : Type 0} (bounds : D → Bounds) (rows : D → List Row) (empty : D → Bool) (states : List D) (label : ℕ) (state : D) (action : Action) (transition : Transition)
    → slice_get states label ≡ Some state → IsTold (bounds state) (empty state) action transition
    → IsTold ((told_by bounds rows empty states).bounds label) ((told_by bounds rows empty states).dead label) action transition
told_here bounds rows empty states label state action transition there is =
    subst (λ found. IsTold (told_at bounds no_bounds found) (told_at empty false found) action transition) (sym there) is
