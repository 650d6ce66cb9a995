use Rattle.std.proofs.Common.{All, take}
use Rattle.num_domain.specs.Domain.{KeepsMeetingAll, Within}
use Rattle.interval_dom.specs.Boxes.{Has, MeetsAlone}
use Rattle.interval_dom.proofs.boxes.Boxes.refine_all.Given as goal

abbrev pub invariant-loop-row : goal.invariant-loop-row
invariant-loop-row l =
    KeepsMeetingAll l.rows (Has l.fn.self) (Has l.self) × Within (Has l.self) (Has l.fn.self)
    × All (λ row. MeetsAlone row (Has l.self)) (take l.row-index l.rows)
