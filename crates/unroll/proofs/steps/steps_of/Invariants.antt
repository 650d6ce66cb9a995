use Rattle.std.proofs.Common.{◌≡◌, ℕ, ◌<◌, length}
use Rattle.step_meaning.specs.Syntax.{statements}
use Rattle.control_flow.specs.Labels.{action_at}
use Rattle.control_flow.specs.Transitions.{transition_in}
use Rattle.unroll.specs.Doing.{Does}
use Rattle.unroll.proofs.steps.steps_of.Given as goal

-- each label so far has its transition
abbrev pub invariant-loop-label : goal.invariant-loop-label
invariant-loop-label l =
    (length l.steps.items ≡ l.label)
    × ((label : ℕ) → label < length l.steps.items → Does (action_at (statements l.graph.body) label) (transition_in l.steps.items label))
