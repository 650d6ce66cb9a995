use Rattle.std.proofs.Common.{◌≡◌, unsigned_abs}
use Rattle.linear_cons.specs.Functions.{coefficient}
use Rattle.control_flow.specs.Measures.{greatest_below}
use Rattle.control_flow.proofs.measure.greatest_number.Given as goal

-- the greatest size of a coefficient so far
abbrev pub invariant-loop-place : goal.invariant-loop-place
invariant-loop-place l = l.most ≡ greatest_below (λ place. unsigned_abs (coefficient l.function place)) l.place
