use Rattle.octagon_dom.specs.Cells.{bound}
use Rattle.octagon_dom.proofs.Writing.{WrittenBelow}
use Rattle.octagon_dom.proofs.cells.line.Given as goal

abbrev pub invariant-loop-b : goal.invariant-loop-b
invariant-loop-b l = WrittenBelow l.b 32 (λ b. bound l.cells l.j b) l.initial.ways l.ways
