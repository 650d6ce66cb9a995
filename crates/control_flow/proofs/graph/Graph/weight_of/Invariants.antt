use Rattle.std.proofs.Common.{◌≡◌}
use Rattle.control_flow.specs.Measures.{greatest_below}
use Rattle.control_flow.specs.Sizing.{held_at}
use Rattle.control_flow.proofs.graph.Graph.weight_of.Given as goal

-- the greatest of the numbers so far
abbrev pub invariant-loop-label : goal.invariant-loop-label
invariant-loop-label l = l.most ≡ greatest_below (λ label. held_at l.sizes label) l.label
