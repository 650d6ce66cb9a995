use Rattle.octagon_dom.specs.Stated.{AreMet}
use Rattle.octagon_dom.proofs.meeting.enter_all.Given as goal

abbrev pub invariant-loop-row : goal.invariant-loop-row
invariant-loop-row l = AreMet l.rows l.fn.cells l.cells
