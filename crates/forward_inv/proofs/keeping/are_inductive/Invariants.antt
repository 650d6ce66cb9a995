use Rattle.std.proofs.Common.{ℕ, ◌<◌}
use Rattle.step_meaning.specs.Syntax.{statements}
use Rattle.control_flow.specs.Edges.{EachEdge, edges_from}
use Rattle.control_flow.specs.Labels.{action_at}
use Rattle.forward_inv.specs.Sets.{KeepsEdge}
use Rattle.forward_inv.proofs.keeping.are_inductive.Given as goal

abbrev pub invariant-loop-label : goal.invariant-loop-label
invariant-loop-label g l =
    (label : ℕ) → label < l.label
    → EachEdge (KeepsEdge g.D.NumDomain.has (statements l.graph.body) l.sets label) (edges_from label (action_at (statements l.graph.body) label))
