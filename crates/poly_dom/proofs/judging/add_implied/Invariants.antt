use Rattle.poly_dom.specs.Lists.{AddsImplied}
use Rattle.poly_dom.proofs.judging.add_implied.Given as goal

abbrev pub invariant-loop-row : goal.invariant-loop-row
invariant-loop-row l = AddsImplied l.rows l.given l.fn.list.items l.list.items
