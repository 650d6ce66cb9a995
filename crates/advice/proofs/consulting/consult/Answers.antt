use Rattle.std.proofs.Common.{◌≡◌, ◌+◌, ◌-◌, ◌<◌, ◌^◌, [], ◌∷◌, ap, arith, length, length-append, subst, sym, ◌∙◌}
use Rattle.std.proofs.lemmas.Grind.{common_steps}
use Rattle.advice.proofs.Asked.{next_below, one_more}
use Rattle.advice.proofs.consulting.consult.Goals as goal
use Rattle.advice.proofs.consulting.consult.Goals.{in-Some, in_default}

pub consult_one-requires : goal.consult_one-requires
consult_one-requires g c =
    let kept = c.loop-number.invariant.0 in
    let low : c.loop-number.number < length c.loop-number.advisers.items =
    let test = c.loop-number-test.true in let len = c.len-number-end.ensures in let long = kept.long in omega (arith, test, len, long) in
    let below = next_below (λ a. (goal.Adviser-dyn g (a.vtable, a.value)).asked_of a.value) c.loop-number.advisers.items c.args.advisers.now.items
    c.loop-number.number (2 ^ 64 - 1) c.index_mut.result.now low kept.long kept.behind c.index_mut.ensures.value c.requires in
    subst (λ v. (goal.Adviser-dyn g v).asked_of v.1 < 2 ^ 64 - 1) (sym c.as_mut.ensures.value.1) below

pub loop-number-preserved : goal.loop-number-preserved
loop-number-preserved g c =
    let kept = c.loop-number.invariant.0 in
    let low : c.loop-number.number < length c.loop-number.advisers.items =
    let test = c.loop-number-test.true in let len = c.len-number-end.ensures in let long = kept.long in omega (arith, test, len, long) in
    let was = c.index_mut.result.now in
    let more = subst (λ v. (goal.Adviser-dyn g (c.as_mut.result.now.0, c.consult_one.new.adviser)).asked_of c.consult_one.new.adviser ≡ (goal.Adviser-dyn g v).asked_of v.1 + 1)
    c.as_mut.ensures.value.1 c.consult_one.ensures in
    let few = c.loop-number.invariant.1 in (
      one_more (λ a. (goal.Adviser-dyn g (a.vtable, a.value)).asked_of a.value) c.args.advisers.now.items c.loop-number.advisers.items c.loop-number.number was
          (record { ptr = was.ptr; vtable = c.as_mut.result.now.0; alloc = was.alloc; value = c.consult_one.new.adviser }) low kept c.index_mut.ensures.value more,
      elim c.match-consult_one.branch [
        | in-Some w ↦ rw w.hints-is (let pushed = ap length w.push_reserved.ensures.items ∙ length-append c.loop-number.hints.items (w.in-Some.hint ∷ []) in omega (arith, few, pushed))
        | in_default w ↦ rw w.hints-is (omega (arith, few))
      ],
    )

pub loop-number-init : goal.loop-number-init
loop-number-init g c = grind (arith, common_steps)
