use Rattle.std.proofs.Common.{take}
use Rattle.linear_cons.specs.Rows.{PointMeetsAll}
use Rattle.linear_solve.proofs.certificate.meets_all.Given as goal

abbrev pub invariant-loop-row : goal.invariant-loop-row
invariant-loop-row l = PointMeetsAll l.point.num l.point.den (take l.row-index l.rows)
