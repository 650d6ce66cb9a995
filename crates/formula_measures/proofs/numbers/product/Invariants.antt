use Rattle.std.proofs.Common.{◌≡◌}
use Rattle.step_meaning.specs.Syntax.{statements}
use Rattle.control_flow.specs.Fitting.{IsFitting}
use Rattle.control_flow.specs.Growth.{factor_at, product_below}
use Rattle.control_flow.specs.Sizing.{held}
use Rattle.formula_measures.proofs.numbers.product.Given as goal

-- the product of the labels so far
abbrev pub invariant-loop-label : goal.invariant-loop-label
invariant-loop-label l = IsFitting (statements l.graph.body) → l.product ≡ held (product_below (factor_at (statements l.graph.body)) l.label)
