use Rattle.octagon_dom.proofs.meeting.meet_unimplied.Goals as goal

pub returns-then-imply-clause-stated : goal.returns-then-imply-clause-stated
returns-then-imply-clause-stated c shape half store below = c.imply.ensures c.if-imply.true store below
