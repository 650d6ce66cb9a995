use Rattle.std.proofs.Common.{◌∙◌, arith, sym}
use Rattle.octagon_dom.specs.Laws.Voids.{void_below_none}
use Rattle.octagon_dom.proofs.meeting.meet_all.Goals as goal

pub returns-then-is_void-clause-stated : goal.returns-then-is_void-clause-stated
returns-then-is_void-clause-stated c k d low shape half store below =
    absurd (void_below_none 1024 c.enter_all.new.cells store (omega arith) (sym c.is_void.ensures ∙ c.if-is_void.true) below)

pub returns-clause-met : goal.returns-clause-met
returns-clause-met c = record {
  long = c.meet_each-whole.ensures.met.long;
  keeps = λ store below all. c.meet_each-whole.ensures.met.keeps store
      (c.close-closed.ensures.keeps store (c.enter_all.ensures.keeps store below all)) all;
  inside = λ store below. c.enter_all.ensures.inside store
      (c.close-closed.ensures.inside store (c.meet_each-whole.ensures.met.inside store below));
}

pub returns-then-is_void-clause-whole : goal.returns-then-is_void-clause-whole
returns-then-is_void-clause-whole c is marked filled =
    let void = sym c.is_void.ensures ∙ c.if-is_void.true in
    absurd (let both = sym void ∙ filled in cc)

pub returns-clause-whole : goal.returns-clause-whole
returns-clause-whole c is marked =
    c.meet_each-whole.ensures.whole (c.both.ensures.other is) (c.close-closed.ensures.whole (c.both.ensures.one is))
