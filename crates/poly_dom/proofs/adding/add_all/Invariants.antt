use Rattle.std.proofs.Common.{take}
use Rattle.poly_dom.specs.Lists.{AddsAll}
use Rattle.poly_dom.proofs.adding.add_all.Given as goal

abbrev pub invariant-loop-row : goal.invariant-loop-row
invariant-loop-row l = AddsAll (take l.row-index l.more) l.fn.rows.items l.rows.items
