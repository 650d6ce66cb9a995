use Rattle.std.proofs.Common.{MatchOption, take}
use Rattle.linear_solve.specs.Points.{IsFree, IsTightest}
use Rattle.linear_solve.proofs.point.Point.tightest.Given as goal

abbrev pub invariant-loop-row : goal.invariant-loop-row
invariant-loop-row l = MatchOption l.best (IsFree (take l.row-index l.rows) l.place l.side) (IsTightest (take l.row-index l.rows) l.place l.side l.self.num l.self.den)
