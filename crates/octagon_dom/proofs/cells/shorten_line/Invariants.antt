use Rattle.std.proofs.Common.{◌+◌, ◌*◌}
use Rattle.num_domain.specs.Ends.{some_end}
use Rattle.octagon_dom.specs.Cells.{cell, least_end, sum_end}
use Rattle.octagon_dom.proofs.Writing.{WrittenFrom}
use Rattle.octagon_dom.proofs.cells.shorten_line.Given as goal

abbrev pub invariant-loop-b : goal.invariant-loop-b
invariant-loop-b l = WrittenFrom (32 * l.a) l.b (λ b. least_end (cell l.fn.cells (32 * l.a + b)) (sum_end (some_end l.way) (cell l.out b))) l.fn.cells l.cells
