use Rattle.std.proofs.Common.{inl, inr, length, ap, ◌∙◌, rules, arith}
use Rattle.std.proofs.lemmas.Grind.{common_steps}
use Rattle.ctl_rounds.proofs.Asking.{unasked}
use Rattle.ctl_rounds.proofs.inquiry.Inquiry.hinted.Goals as goal

pub returns-in_err-begun-clause-asked : goal.returns-in_err-begun-clause-asked
returns-in_err-begun-clause-asked g c =
    (0, omega (arith), unasked (λ adviser. (goal.Adviser-dyn g (adviser.vtable, adviser.value)).asked_of adviser.value) c.args.advisers.now.items, search rules)

pub returns-in_ok-begun-clause-asked : goal.returns-in_ok-begun-clause-asked
returns-in_ok-begun-clause-asked g c = (
  0,
  omega (arith),
  unasked (λ adviser. (goal.Adviser-dyn g (adviser.vtable, adviser.value)).asked_of adviser.value) c.args.advisers.now.items,
  c.in_ok-begun.ensures.turns,
)

pub advised-requires : goal.advised-requires
advised-requires g c = grind (arith, common_steps)

pub returns-in_err-finish-clause-asked : goal.returns-in_err-finish-clause-asked
returns-in_err-finish-clause-asked g c = let asked = c.in_ok-found.ensures.asked in (asked.0, asked.1, asked.2, search rules)

pub returns-in_ok-finish-clause-asked : goal.returns-in_ok-finish-clause-asked
returns-in_ok-finish-clause-asked g c =
    let asked = c.in_ok-found.ensures.asked in (asked.0, asked.1, asked.2, c.in_ok-finish.ensures.turns ∙ asked.3)

pub returns-in_ok-finish-clause-turns : goal.returns-in_ok-finish-clause-turns
returns-in_ok-finish-clause-turns g c advised = elim c.in_ok-found.ensures.turns [
  | inl whole ↦ inl (c.in_ok-finish.ensures.whole whole)
  | inr eight ↦ inr (c.in_ok-finish.ensures.turns ∙ eight)
]

pub returns-in_ok-finish-clause-exact : goal.returns-in_ok-finish-clause-exact
returns-in_ok-finish-clause-exact g c = c.in_ok-finish.ensures.exact c.in_ok-found.ensures.exact

pub returns-in_ok-finish-clause-alone : goal.returns-in_ok-finish-clause-alone
returns-in_ok-finish-clause-alone g c loopless =
    ap length (c.in_ok-finish.ensures.alone loopless) ∙ c.in_ok-found.ensures.alone loopless
