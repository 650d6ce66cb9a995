use Rattle.std.proofs.Common.{◌≤◌, length}
use Rattle.step_meaning.specs.Syntax.{statements}
use Rattle.control_flow.specs.Labels.{all_labels}
use Rattle.control_flow.specs.Sizing.{HasSizes}
use Rattle.control_flow.proofs.graph.Graph.weight.Given as goal

-- the sizes are those of the level so far
abbrev pub invariant-loop : goal.invariant-loop
invariant-loop l = (length (all_labels (statements l.self.body)) ≤ length l.sizes) × HasSizes (statements l.self.body) l.counter l.sizes
