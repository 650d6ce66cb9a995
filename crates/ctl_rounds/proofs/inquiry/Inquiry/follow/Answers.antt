use Rattle.ctl_rounds.proofs.inquiry.Inquiry.follow.Goals as goal

pub loop-hint-preserved : goal.loop-hint-preserved
loop-hint-preserved g c = (
  c.in_ok-try_hint.ensures.found,
  (λ some. c.in_ok-try_hint.ensures.some (c.loop-hint.invariant.1 some)),
  (λ begins. c.in_ok-try_hint.ensures.exact (c.loop-hint.invariant.2 begins)),
)
