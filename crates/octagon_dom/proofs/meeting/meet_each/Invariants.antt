use Rattle.std.proofs.Common.{All, IsTrue, take}
use Rattle.octagon_dom.specs.Closure.{KeepsClosed}
use Rattle.octagon_dom.specs.Stated.{AreMet, MeetsStated}
use Rattle.octagon_dom.proofs.meeting.meet_each.Given as goal

abbrev pub invariant-loop-row : goal.invariant-loop-row
invariant-loop-row l = AreMet l.rows l.fn.cells l.cells × All (λ row. MeetsStated row l.cells) (take l.row-index l.rows)
    × (IsTrue l.whole → KeepsClosed l.fn.cells l.cells)
