use Rattle.std.proofs.Common.{◌≤◌, ◌^◌, All, subst, arith}
use Rattle.std.proofs.lemmas.List.{take_all}
use Rattle.std.proofs.lemmas.List.Elements.{All-more}
use Rattle.hostile_tests.proofs.advisers.were_asked_little.Goals as goal

pub loop-adviser-preserved : goal.loop-adviser-preserved
loop-adviser-preserved g c =
    let asked = c.times_asked.ensures in let little = c.if-times_asked.false in let test = c.loop-adviser-test.true in
    All-more (λ a. (goal.Adviser-dyn g (a.vtable, a.value)).asked_of a.value ≤ 2 ^ 32) c.args.advisers.now c.loop-adviser.adviser-index
    c.adviser-item.result (omega (arith, test)) c.loop-adviser.invariant
    (subst (λ a. (goal.Adviser-dyn g (a.vtable, a.value)).asked_of a.value ≤ 2 ^ 32) c.adviser-item.is (omega (arith, asked, little)))

pub returns : goal.returns
returns g c = λ is. let test = c.loop-adviser-test.false in
    subst (λ rest. All (λ a. (goal.Adviser-dyn g (a.vtable, a.value)).asked_of a.value ≤ 2 ^ 32) rest)
    (take_all c.loop-adviser.adviser-index c.args.advisers.now (omega (arith, test))) c.loop-adviser.invariant
