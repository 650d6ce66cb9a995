use Rattle.num_domain.specs.Ends.{some_end}
use Rattle.octagon_dom.proofs.Lowering.{lowered_inside, lowered_keeps}
use Rattle.octagon_dom.proofs.meeting.lower.Goals as goal

pub returns-clause-keeps : goal.returns-clause-keeps
returns-clause-keeps c store below met =
    lowered_keeps c.args.cells.now c.args.i c.args.j c.least.result (some_end c.args.step) c.requires.row c.requires.column c.requires.long
    c.least.ensures store below met

pub returns-clause-inside : goal.returns-clause-inside
returns-clause-inside c store below =
    lowered_inside c.args.cells.now c.args.i c.args.j c.least.result (some_end c.args.step) c.requires.row c.requires.column c.requires.long
    c.least.ensures store below
