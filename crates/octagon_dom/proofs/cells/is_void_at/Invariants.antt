use Rattle.std.proofs.Common.{◌≡◌, ◌<◌, ℕ, false}
use Rattle.octagon_dom.specs.Cells.{bound, is_negative}
use Rattle.octagon_dom.proofs.cells.is_void_at.Given as goal

abbrev pub invariant-loop-j : goal.invariant-loop-j
invariant-loop-j l = (b : ℕ) → b < l.j → is_negative (bound l.cells l.i b) (bound l.cells b l.i) ≡ false
