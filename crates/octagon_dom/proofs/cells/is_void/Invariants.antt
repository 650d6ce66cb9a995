use Rattle.std.proofs.Common.{◌≡◌, ◌<◌, ℕ, false}
use Rattle.octagon_dom.specs.Cells.{bound, is_negative}
use Rattle.octagon_dom.proofs.cells.is_void.Given as goal

abbrev pub invariant-loop-i : goal.invariant-loop-i
invariant-loop-i l = (a b : ℕ) → a < l.i → b < a → is_negative (bound l.cells a b) (bound l.cells b a) ≡ false
