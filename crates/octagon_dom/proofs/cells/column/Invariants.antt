use Rattle.num_domain.specs.Ends.{some_end}
use Rattle.octagon_dom.specs.Cells.{bound, sum_end}
use Rattle.octagon_dom.proofs.Writing.{WrittenBelow}
use Rattle.octagon_dom.proofs.cells.column.Given as goal

abbrev pub invariant-loop-a : goal.invariant-loop-a
invariant-loop-a l = WrittenBelow l.a 32 (λ a. sum_end (bound l.cells a l.i) (some_end l.fn.step)) l.initial.ways l.ways
