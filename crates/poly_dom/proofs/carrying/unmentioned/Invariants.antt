use Rattle.std.proofs.Common.{◌≤◌, length}
use Rattle.linear_solve.specs.Answers.{KeepsStores}
use Rattle.poly_dom.proofs.carrying.unmentioned.Given as goal

abbrev pub invariant-loop-row : goal.invariant-loop-row
invariant-loop-row l = record { keeps : KeepsStores l.rows l.place l.list.items; few : length l.list.items ≤ 256 }
