use Rattle.std.proofs.Common.{◌*◌, ◌/◌, ◌%◌}
use Rattle.num_domain.specs.Ends.{some_end}
use Rattle.octagon_dom.specs.Cells.{tightened}
use Rattle.octagon_dom.proofs.Writing.{WrittenBelow}
use Rattle.octagon_dom.proofs.cells.tighten.Given as goal

abbrev pub invariant-loop-a : goal.invariant-loop-a
invariant-loop-a l = WrittenBelow (32 * l.a) 1024 (λ k. tightened l.fn.cells l.i l.j (some_end l.fn.step) (k / 32) (k % 32)) l.fn.cells l.cells
