use Rattle.std.proofs.Common.{◌≡◌, ℕ, ◌<◌, length}
use Rattle.control_flow.specs.Sizing.{held_at}
use Rattle.control_flow.proofs.sizes.fill_ones.Given as goal

-- each number so far is 1
abbrev pub invariant-loop-label : goal.invariant-loop-label
invariant-loop-label l = (length l.sizes ≡ length l.initial.sizes) × ((label : ℕ) → label < l.label → held_at l.sizes label ≡ 1)
