use Rattle.num_domain.specs.Ends.{some_end}
use Rattle.octagon_dom.specs.Cells.{bound}
use Rattle.octagon_dom.proofs.Shortened.{moderate_fits}
use Rattle.octagon_dom.proofs.cells.shorten.Goals as goal

pub returns-clause-whole : goal.returns-clause-whole
returns-clause-whole c is = moderate_fits (bound c.args.cells.now) c.args.i c.args.j (some_end c.args.step)
    (c.is_moderate-moderate.ensures.only (c.both-2.ensures.one is))
    (c.is_moderate_at-here.ensures.0 (c.both.ensures.one (c.both-2.ensures.other is)))
    (c.is_moderate_at-there.ensures.0 (c.both.ensures.other (c.both-2.ensures.other is)))

pub returns-clause-moderate : goal.returns-clause-moderate
returns-clause-moderate c steps here there = c.both-2.ensures.all (c.is_moderate-moderate.ensures.each steps)
    (c.both.ensures.all (c.is_moderate_at-here.ensures.1 here) (c.is_moderate_at-there.ensures.1 there))
