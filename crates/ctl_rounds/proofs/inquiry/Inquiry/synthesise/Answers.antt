use Rattle.std.proofs.Common.{◌∙◌}
use Rattle.ctl_rounds.proofs.inquiry.Inquiry.synthesise.Goals as goal

pub loop-plan-preserved : goal.loop-plan-preserved
loop-plan-preserved g c = (
  c.in_ok-answer.ensures.found,
  (λ some. c.in_ok-answer.ensures.some (c.loop-plan.invariant.1 some)),
  (λ begins. c.in_ok-answer.ensures.exact (c.loop-plan.invariant.2 begins)),
  c.in_ok-answer.ensures.turns ∙ c.loop-plan.invariant.3,
)
