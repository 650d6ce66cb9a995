use Rattle.std.proofs.Common.{◌≡◌, ℕ, ◌<◌, length}
use Rattle.control_flow.specs.Sizing.{held_at}
use Rattle.formula_measures.proofs.sizes.everywhere.Given as goal

-- the labels so far have it
abbrev pub invariant-loop : goal.invariant-loop
invariant-loop l = (length l.sizes.items ≡ l.counter) × ((k : ℕ) → k < l.counter → held_at l.sizes.items k ≡ l.size)
