use Rattle.std.proofs.Common.{length, ap, ◌∙◌}
use Rattle.ctl_rounds.proofs.inquiry.Inquiry.sought.Goals.{then-synthesises+then-not-is_whole+in_ok-synthesise, else-synthesises}
use Rattle.ctl_rounds.proofs.inquiry.Inquiry.sought.Goals as goal

pub returns-clause-exact : goal.returns-clause-exact
returns-clause-exact g c = elim c.if-synthesises.branch [
  | then-synthesises+then-not-is_whole+in_ok-synthesise w ↦ rw w.found-is (w.in_ok-synthesise.ensures.exact c.in_ok-found.ensures.exact)
  | else-synthesises w ↦ rw w.found-is c.in_ok-found.ensures.exact
]

pub returns-clause-asked : goal.returns-clause-asked
returns-clause-asked g c = let asked = c.in_ok-found.ensures.asked in (
  asked.0,
  asked.1,
  asked.2,
  elim c.if-synthesises.branch [
    | then-synthesises+then-not-is_whole+in_ok-synthesise w ↦ rw w.found-is (w.in_ok-synthesise.ensures.turns ∙ asked.3)
    | else-synthesises w ↦ rw w.found-is asked.3
  ],
)

pub returns-clause-alone : goal.returns-clause-alone
returns-clause-alone g c = elim c.if-synthesises.branch [
  | then-synthesises+then-not-is_whole+in_ok-synthesise w ↦ rw w.found-is
      (λ loopless. ap length (w.in_ok-synthesise.ensures.alone loopless) ∙ c.in_ok-found.ensures.alone loopless)
  | else-synthesises w ↦ rw w.found-is c.in_ok-found.ensures.alone
]
