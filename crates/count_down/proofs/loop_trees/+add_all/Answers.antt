use Rattle.std.proofs.Common.{◌≡◌, ap, ◌∙◌, arith}
use Rattle.step_meaning.specs.Syntax.{statement, statements, expression, sequence, assign, while_loop}
use Rattle.count_down.specs.declared.loop_trees.Lead.{Lead}
use Rattle.count_down.proofs.Leading.{led_modest, lengths_short, may_carry, steps_short}
use Rattle.count_down.proofs.loop_trees.+add_all.Goals as goal

pub add_before-requires-clause-known : goal.add_before-requires-clause-known
add_before-requires-clause-known t c =
    let split : statements c.args.block.now ≡ sequence (assign c.in-Assign.var (expression c.in-Assign.value)) (statements c.deref-in-Assign.result.now) =
    rw (c.deref.ensures, c.deref-in-Assign.ensures) (ap statements c.in-Then.is) ∙ ap (λ k. sequence (statement k) (statements c.deref-in-Assign.result.now)) c.in-Assign.is in
    let led = rw split at c.requires.led in
    rw c.in_ok-behind-in-Assign.ensures.lead (may_carry c.args.row.now c.in-Assign.var (expression c.in-Assign.value) (statements c.deref-in-Assign.result.now) led)

pub add_before-requires-clause-few : goal.add_before-requires-clause-few
add_before-requires-clause-few t c =
    let split : statements c.args.block.now ≡ sequence (assign c.in-Assign.var (expression c.in-Assign.value)) (statements c.deref-in-Assign.result.now) =
    rw (c.deref.ensures, c.deref-in-Assign.ensures) (ap statements c.in-Then.is) ∙ ap (λ k. sequence (statement k) (statements c.deref-in-Assign.result.now)) c.in-Assign.is in
    let few = rw split at c.requires.few in
    let short = steps_short (statements c.deref-in-Assign.result.now) in
    let is = ap (λ (l : Lead). l.steps) c.in_ok-behind-in-Assign.ensures.lead in
    omega arith

pub add_before-requires-clause-short : goal.add_before-requires-clause-short
add_before-requires-clause-short t c =
    let split : statements c.args.block.now ≡ sequence (assign c.in-Assign.var (expression c.in-Assign.value)) (statements c.deref-in-Assign.result.now) =
    rw (c.deref.ensures, c.deref-in-Assign.ensures) (ap statements c.in-Then.is) ∙ ap (λ k. sequence (statement k) (statements c.deref-in-Assign.result.now)) c.in-Assign.is in
    let few = rw split at c.requires.few in
    rw c.in_ok-behind-in-Assign.ensures.lead (lengths_short c.args.row.now.affine (statements c.deref-in-Assign.result.now) (omega arith))

pub add_before-requires-clause-modest : goal.add_before-requires-clause-modest
add_before-requires-clause-modest t c =
    let split : statements c.args.block.now ≡ sequence (assign c.in-Assign.var (expression c.in-Assign.value)) (statements c.deref-in-Assign.result.now) =
    rw (c.deref.ensures, c.deref-in-Assign.ensures) (ap statements c.in-Then.is) ∙ ap (λ k. sequence (statement k) (statements c.deref-in-Assign.result.now)) c.in-Assign.is in
    let led = rw split at c.requires.led in
    rw c.in_ok-behind-in-Assign.ensures.lead
    (led_modest c.args.row.now (sequence (assign c.in-Assign.var (expression c.in-Assign.value)) (statements c.deref-in-Assign.result.now)) led)

pub returns-in_ok-lengths-in-While-clause-list : goal.returns-in_ok-lengths-in-While-clause-list
returns-in_ok-lengths-in-While-clause-list t c =
    let split : statements c.args.block.now ≡ sequence (while_loop (expression c.in-While.test) (statements c.in-While.body) (statements c.in-While.step)) (statements c.deref-in-While.result.now) =
    rw (c.deref.ensures, c.deref-in-While.ensures) (ap statements c.in-Then.is) ∙ ap (λ k. sequence (statement k) (statements c.deref-in-While.result.now)) c.in-While.is in
    rw split c.in_ok-lengths-in-While.ensures.list
