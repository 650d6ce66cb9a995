use Rattle.std.proofs.Common.{◌/◌, ◌%◌}
use Rattle.num_domain.specs.Ends.{some_end}
use Rattle.octagon_dom.specs.Cells.{shifted}
use Rattle.octagon_dom.proofs.Writing.{WrittenBelow}
use Rattle.octagon_dom.proofs.moving.shift_each.Given as goal

abbrev pub invariant-loop-k : goal.invariant-loop-k
invariant-loop-k l = WrittenBelow l.k 1024 (λ k. shifted l.fn.cells l.place (some_end l.fn.up) (some_end l.fn.down) (k / 32)
    (k % 32)) l.fn.cells l.cells
