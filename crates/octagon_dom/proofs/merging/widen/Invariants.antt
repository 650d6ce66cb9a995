use Rattle.std.proofs.Common.{◌/◌, ◌%◌}
use Rattle.octagon_dom.specs.Cells.{widened}
use Rattle.octagon_dom.proofs.Writing.{WrittenBelow}
use Rattle.octagon_dom.proofs.merging.widen.Given as goal

abbrev pub invariant-loop-k : goal.invariant-loop-k
invariant-loop-k l = WrittenBelow l.k 1024 (λ k. widened l.fn.cells l.newer (k / 32) (k % 32)) l.fn.cells l.cells
