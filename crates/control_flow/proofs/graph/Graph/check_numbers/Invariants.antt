use Rattle.std.proofs.Common.{ℕ, ◌<◌}
use Rattle.step_meaning.specs.Syntax.{statements}
use Rattle.control_flow.specs.Fitting.{ActionFits}
use Rattle.control_flow.specs.Labels.{action_at}
use Rattle.control_flow.proofs.graph.Graph.check_numbers.Given as goal

-- the numbers at the labels so far fit
abbrev pub invariant-loop-label : goal.invariant-loop-label
invariant-loop-label l = (label : ℕ) → label < l.label → ActionFits (action_at (statements l.self.body) label)
