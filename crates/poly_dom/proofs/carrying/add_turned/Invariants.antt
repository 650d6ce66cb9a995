use Rattle.poly_dom.specs.Assignments.{AddsAfter}
use Rattle.poly_dom.proofs.carrying.add_turned.Given as goal

abbrev pub invariant-loop-row : goal.invariant-loop-row
invariant-loop-row l = AddsAfter l.place l.value l.rows l.fn.list.items l.list.items
