use Rattle.std.proofs.Common.{◌+◌, length, ap, ◌∙◌, rules, arith}
use Rattle.std.proofs.lemmas.Grind.{common_steps}
use Rattle.ctl_rounds.proofs.Asking.{asked_again, can_be_asked, unasked}
use Rattle.ctl_rounds.proofs.inquiry.Inquiry.advised.Goals as goal

pub returns-in_err-claims-clause-asked : goal.returns-in_err-claims-clause-asked
returns-in_err-claims-clause-asked g c =
    (0, omega (arith), unasked (λ a. (goal.Adviser-dyn g (a.vtable, a.value)).asked_of a.value) c.args.advisers.now.items, search rules)

pub returns-in_err-found-clause-asked : goal.returns-in_err-found-clause-asked
returns-in_err-found-clause-asked g c =
    (0, omega (arith), unasked (λ a. (goal.Adviser-dyn g (a.vtable, a.value)).asked_of a.value) c.args.advisers.now.items, search rules)

pub returns-in_err-facts-clause-asked : goal.returns-in_err-facts-clause-asked
returns-in_err-facts-clause-asked g c =
    (0, omega (arith), unasked (λ a. (goal.Adviser-dyn g (a.vtable, a.value)).asked_of a.value) c.args.advisers.now.items, search rules)

pub loop-turns-init : goal.loop-turns-init
loop-turns-init g c = (
  c.in_ok-found.ensures.found,
  c.in_ok-found.ensures.some,
  omega (arith),
  unasked (λ a. (goal.Adviser-dyn g (a.vtable, a.value)).asked_of a.value) c.args.advisers.now.items,
  c.in_ok-found.ensures.exact,
  (λ loopless. c.in_ok-found.ensures.alone),
)

pub consult-requires : goal.consult-requires
consult-requires g c =
    can_be_asked (λ a. (goal.Adviser-dyn g (a.vtable, a.value)).asked_of a.value) c.loop-turns.turns c.args.advisers.now.items
    c.loop-turns.advisers.items c.loop-turns.invariant.2 c.loop-turns.invariant.3 c.requires.patient

pub returns-in_err-follow-clause-asked : goal.returns-in_err-follow-clause-asked
returns-in_err-follow-clause-asked g c =
    let test = c.loop-turns-test.true in (
      c.loop-turns.turns + 1,
      omega (arith, test),
      asked_again (λ a. (goal.Adviser-dyn g (a.vtable, a.value)).asked_of a.value) c.loop-turns.turns c.args.advisers.now.items
          c.loop-turns.advisers.items c.consult.new.advisers.items c.loop-turns.invariant.3 c.in_ok-hints.ensures.asked,
      search rules,
    )

pub loop-turns-preserved : goal.loop-turns-preserved
loop-turns-preserved g c =
    let test = c.loop-turns-test.true in (
      c.in_ok-follow.ensures.found,
      c.in_ok-follow.ensures.some c.loop-turns.invariant.1,
      omega (arith, test),
      asked_again (λ a. (goal.Adviser-dyn g (a.vtable, a.value)).asked_of a.value) c.loop-turns.turns c.args.advisers.now.items
          c.loop-turns.advisers.items c.consult.new.advisers.items c.loop-turns.invariant.3 c.in_ok-hints.ensures.asked,
      c.in_ok-follow.ensures.exact c.loop-turns.invariant.4,
      (λ loopless. ap length (c.in_ok-follow.ensures.alone loopless) ∙ c.loop-turns.invariant.5 loopless),
    )

pub index-requires : goal.index-requires
index-requires g c = grind (arith, common_steps)

pub index-requires-2 : goal.index-requires-2
index-requires-2 g c = grind (arith, common_steps)

pub facts-requires : goal.facts-requires
facts-requires g c = grind (arith, common_steps)
