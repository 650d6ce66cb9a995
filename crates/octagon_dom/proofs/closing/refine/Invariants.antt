use Rattle.std.proofs.Common.{◌≡◌, ℤ, IsTrue, List, length}
use Rattle.linear_cons.specs.Rows.{Meets}
use Rattle.octagon_dom.specs.Cells.{IsBelow}
use Rattle.octagon_dom.specs.Closure.{KeepsClosed}
use Rattle.octagon_dom.proofs.closing.refine.Given as goal

abbrev pub invariant-loop-place : goal.invariant-loop-place
invariant-loop-place l =
    (length l.cells ≡ 1024) × ((store : List ℤ) → IsBelow l.fn.cells store → Meets store l.row → IsBelow l.cells store)
    × ((store : List ℤ) → IsBelow l.cells store → IsBelow l.fn.cells store)
    × (IsTrue l.whole → KeepsClosed l.fn.cells l.cells)
