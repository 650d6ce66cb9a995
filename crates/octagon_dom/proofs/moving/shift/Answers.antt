use Rattle.num_domain.specs.Ends.{some_end}
use Rattle.octagon_dom.proofs.Moves.{shifted_closed}
use Rattle.octagon_dom.proofs.moving.shift.Goals as goal

pub returns-clause-whole : goal.returns-clause-whole
returns-clause-whole c is = shifted_closed c.args.place (some_end c.args.up) (some_end c.args.down) c.args.cells.now c.shift_each.new.cells
    c.shift_each.ensures (c.can_move-whole.ensures.0 is)

pub returns-clause-moderate : goal.returns-clause-moderate
returns-clause-moderate c = c.can_move-whole.ensures.1
