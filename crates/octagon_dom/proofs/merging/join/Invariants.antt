use Rattle.std.proofs.Common.{◌/◌, ◌%◌}
use Rattle.octagon_dom.specs.Cells.{joined}
use Rattle.octagon_dom.proofs.Writing.{WrittenBelow}
use Rattle.octagon_dom.proofs.merging.join.Given as goal

abbrev pub invariant-loop-k : goal.invariant-loop-k
invariant-loop-k l = WrittenBelow l.k 1024 (λ k. joined l.fn.cells l.other (k / 32) (k % 32)) l.fn.cells l.cells
