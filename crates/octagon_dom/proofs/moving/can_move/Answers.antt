use Rattle.std.proofs.Common.{◌∙◌, sym}
use Rattle.octagon_dom.proofs.moving.can_move.Goals as goal

pub returns-then-is_negative : goal.returns-then-is_negative
returns-then-is_negative c = (λ is. absurd (cc), λ can. sym can.between ∙ sym c.is_negative.ensures ∙ c.if-is_negative.true)

pub returns : goal.returns
returns c = (
  λ is. record {
    bounds = c.are_moderate.ensures.0 (c.both.ensures.other is);
    above = c.is_moderate.ensures.only (c.both-ends.ensures.one (c.both.ensures.one is));
    below = c.is_moderate-2.ensures.only (c.both-ends.ensures.other (c.both.ensures.one is));
    between = sym c.is_negative.ensures ∙ c.if-is_negative.false;
  },
  λ can. c.both.ensures.all
      (c.both-ends.ensures.all (c.is_moderate.ensures.each can.above) (c.is_moderate-2.ensures.each can.below))
      (c.are_moderate.ensures.1 can.bounds),
)
