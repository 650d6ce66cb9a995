use Rattle.std.proofs.Common.{◌≤◌, ◌^◌, arith, subst, sym, unsigned_abs}
use Rattle.octagon_dom.specs.Laws.Members.{turned_low}
use Rattle.octagon_dom.proofs.RowClosures.{row_closes}
use Rattle.octagon_dom.proofs.closing.meet.Goals as goal

pub returns-in-Some-clause-met : goal.returns-in-Some-clause-met
returns-in-Some-clause-met c shape half store below =
    let fits = c.in-Some.ensures.fits half in
    c.in-Some.ensures.exact fits.0 fits.1 store (c.state.ensures.met store below)

pub returns-in-Some-clause-keeps : goal.returns-in-Some-clause-keeps
returns-in-Some-clause-keeps c store below met = c.state.ensures.keeps store below (c.in-Some.ensures.keeps store met)

pub returns-in-Some-clause-closes : goal.returns-in-Some-clause-closes
returns-in-Some-clause-closes c shape = row_closes c.args.row.now c.in-Some.stated c.args.cells.now _ (turned_low c.in-Some.stated.low c.in-Some.ensures.between.to)
    (turned_low c.in-Some.stated.high c.in-Some.ensures.between.from) c.in-Some.ensures c.state.ensures.closes

pub returns-in-Some-clause-sized : goal.returns-in-Some-clause-sized
returns-in-Some-clause-sized c shape bounds few = c.state.ensures.sized bounds (λ z is.
    let sized = c.in-Some.ensures.sized in
    subst (λ t. unsigned_abs t ≤ 2 ^ 123) (sym (c.in-Some.ensures.known z is)) (omega arith))
