use Rattle.std.proofs.Common.{◌≡◌}
use Rattle.control_flow.specs.Measures.{greatest_below}
use Rattle.control_flow.specs.Sizing.{held_at}
use Rattle.formula_measures.proofs.sizes.greatest_of.Given as goal

-- the greatest of the labels so far
abbrev pub invariant-loop-label : goal.invariant-loop-label
invariant-loop-label l = l.greatest ≡ greatest_below (λ label. held_at l.sizes label) l.label
