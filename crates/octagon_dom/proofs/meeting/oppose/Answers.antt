use Rattle.octagon_dom.proofs.Opposed.{opposed_bound, opposed_twin}
use Rattle.octagon_dom.proofs.meeting.oppose.Goals as goal

pub returns-then-is_negative : goal.returns-then-is_negative
returns-then-is_negative c truth store below holds =
    let between = c.requires.between in
    let is = rw (c.is_negative.ensures, c.at.ensures) at c.if-is_negative.true in
    opposed_bound c.args.cells.now _ _ _ between.from between.to store below holds is

pub returns : goal.returns
returns c truth store below holds =
    let between = c.requires.between in
    let is = rw (c.is_negative-2.ensures, c.least.ensures, c.sum-way.ensures, c.sum.ensures, c.at-2.ensures, c.at-3.ensures, c.at-4.ensures, c.turned-from.ensures, c.turned-to.ensures) at truth in
    opposed_twin c.args.cells.now _ _ _ between.from between.to store below holds is
