use Rattle.std.proofs.Common.{take}
use Rattle.poly_dom.specs.Lists.{ImplyAll}
use Rattle.poly_dom.proofs.judging.tell_all.Given as goal

abbrev pub invariant-loop-row : goal.invariant-loop-row
invariant-loop-row l = ImplyAll l.rows (take l.row-index l.more)
