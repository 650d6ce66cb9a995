use Rattle.std.proofs.Common.{◌≡◌, ◌<◌, ℕ, ℤ, IsTrue, List, length}
use Rattle.octagon_dom.specs.Cells.{IsBelow, bound}
use Rattle.octagon_dom.specs.Closure.{ArePassed, IsClosed}
use Rattle.octagon_dom.proofs.Passes.{ArePassedWhole}
use Rattle.octagon_dom.proofs.closing.close.Given as goal

abbrev pub invariant-loop-k : goal.invariant-loop-k
invariant-loop-k l =
    (length l.cells ≡ 1024) × ((store : List ℤ) → IsBelow l.fn.cells store → IsBelow l.cells store)
    × ((store : List ℤ) → IsBelow l.cells store → IsBelow l.fn.cells store)
    × (IsClosed (bound l.fn.cells) → (i j : ℕ) → i < 32 → j < 32 → bound l.cells i j ≡ bound l.fn.cells i j)
    × ArePassed l.fn.cells l.k l.cells
    × (IsTrue l.whole → ArePassedWhole l.k l.fn.cells l.cells)
