use Rattle.std.proofs.Common.{◌≡◌, ℕ, ◌+◌, ◌^◌}
use Rattle.control_flow.specs.Sizing.{held}
use Rattle.control_flow.proofs.growth.power.Given as goal

-- the power so far
abbrev pub invariant-loop : goal.invariant-loop
invariant-loop l = (n : ℕ) → l.base ≡ held n → l.power ≡ held (n ^ (l.counter + 1))
