use Rattle.std.proofs.Common.{subst, sym}
use Rattle.linear_cons.specs.Bounds.{LiesIn}
use Rattle.octagon_dom.specs.Laws.Rows.{below_lies}
use Rattle.octagon_dom.proofs.closing.refine.Goals as goal

pub loop-place-preserved : goal.loop-place-preserved
loop-place-preserved c = (
  c.refine_at-fits.ensures.long,
  λ store below met. c.refine_at-fits.ensures.keeps store (c.loop-place.invariant.1 store below met)
      (subst (λ bounds. LiesIn bounds store) (sym c.bounds_of-before.ensures) (below_lies c.args.cells.now store below)) met,
  λ store below. c.loop-place.invariant.2 store (c.refine_at-fits.ensures.inside store below),
  λ is marked. c.refine_at-fits.ensures.whole (c.both-whole.ensures.other is) (c.loop-place.invariant.3 (c.both-whole.ensures.one is) marked),
)

pub loop-place-init : goal.loop-place-init
loop-place-init c = (c.requires, λ store below met. below, λ store below. below, λ is marked. marked)

pub returns-clause-whole : goal.returns-clause-whole
returns-clause-whole c is = c.loop-place.invariant.3 is
