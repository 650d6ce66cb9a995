use Rattle.octagon_dom.proofs.PlainRows.{plain_states}
use Rattle.octagon_dom.proofs.octagon.OctagonNumDomain.meet_row.Goals as goal

pub returns-clause-plain : goal.returns-clause-plain
returns-clause-plain c place plain store is has = ((c.add.ensures.exact (plain_states c.args.row.now place plain) store is).0 has).1
