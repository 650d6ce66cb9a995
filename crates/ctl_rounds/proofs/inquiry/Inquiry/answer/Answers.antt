use Rattle.std.proofs.Common.{◌∙◌}
use Rattle.ctl_rounds.proofs.inquiry.Inquiry.answer.Goals.{then-not-is_whole+in_ok-propose, else-not-is_whole}
use Rattle.ctl_rounds.proofs.inquiry.Inquiry.answer.Goals as goal

pub loop-parting-preserved : goal.loop-parting-preserved
loop-parting-preserved g c = elim c.if-not-is_whole.branch [
  | then-not-is_whole+in_ok-propose w ↦ rw w.found-is (
    w.in_ok-propose.ensures.found,
    (λ some. w.in_ok-propose.ensures.some (c.loop-parting.invariant.1 some)),
    (λ begins. w.in_ok-propose.ensures.exact (c.loop-parting.invariant.2 begins)),
    w.in_ok-propose.ensures.turns ∙ c.loop-parting.invariant.3,
  )
  | else-not-is_whole w ↦ rw w.found-is c.loop-parting.invariant
]
