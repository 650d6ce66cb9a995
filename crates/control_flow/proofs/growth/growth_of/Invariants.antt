use Rattle.std.proofs.Common.{◌≡◌, ◌+◌, ◌^◌}
use Rattle.step_meaning.specs.Syntax.{statements}
use Rattle.control_flow.specs.Growth.{factor_at, product_below}
use Rattle.control_flow.specs.Sizing.{held}
use Rattle.control_flow.proofs.growth.growth_of.Given as goal

-- the product of the labels so far
abbrev pub invariant-loop-label : goal.invariant-loop-label
invariant-loop-label l = l.product ≡ held (product_below (λ label. factor_at (statements l.graph.body) label ^ (l.tests + 1)) l.label)
