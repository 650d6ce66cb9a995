use Rattle.std.proofs.Common.{ℕ, ◌<◌}
use Rattle.octagon_dom.specs.Cells.{bound}
use Rattle.octagon_dom.specs.Closure.{IsModerateEnd}
use Rattle.octagon_dom.proofs.cells.is_moderate_at.Given as goal

abbrev pub invariant-loop-a : goal.invariant-loop-a
invariant-loop-a l = (k : ℕ) → k < l.a → IsModerateEnd (bound l.cells k l.i) × IsModerateEnd (bound l.cells l.i k)
