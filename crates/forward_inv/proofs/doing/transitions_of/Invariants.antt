use Rattle.std.proofs.Common.{◌≡◌, ℕ, ◌<◌, length}
use Rattle.step_meaning.specs.Syntax.{statements}
use Rattle.control_flow.specs.Labels.{action_at}
use Rattle.control_flow.specs.Told.{Told, told_by}
use Rattle.control_flow.specs.Transitions.{IsTold, transition_in}
use Rattle.forward_inv.proofs.doing.transitions_of.Given as goal

-- each label so far has its transition
abbrev pub invariant-loop-label : goal.invariant-loop-label
invariant-loop-label g l =
    let told : Told = told_by g.D.NumDomain.told_bounds g.D.NumDomain.told_rows g.D.NumDomain.seen_empty l.inv in
    (length l.made.items ≡ l.label)
    × ((label : ℕ) → label < length l.made.items
    → IsTold (told.bounds label) (told.dead label) (action_at (statements l.graph.body) label) (transition_in l.made.items label))
