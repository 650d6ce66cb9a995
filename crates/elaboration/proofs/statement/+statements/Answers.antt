use Rattle.std.proofs.lemmas.Grind.{common_steps}
use Rattle.std.proofs.Common.{◌≡◌, true, false, take, sym, ap, ◌∙◌, subst, arith}
use Rattle.std.proofs.lemmas.Result.{on_ok_weaker}
use Rattle.concrete_syntax.specs.Mirror.{expression as expression_of, name as name_of, call as call_of, declaration as declaration_of, start as start_of, optional, optional_simple as optional_simple_of, statement as statement_of, statement_kind, otherwise as otherwise_of, items as items_of}
use Rattle.concrete_syntax.specs.Trees as tree
use Rattle.elaboration.specs.Contexts.{deeper, looping}
use Rattle.elaboration.specs.Guards.{guards, around_statement}
use Rattle.typed_expressions.specs.Expressions.{expression_faults}
use Rattle.typed_expressions.specs.Scopes.{Scope}
use Rattle.elaboration.specs.Statements.{joined, declaration_walked, statement_walked, otherwise_walked, items_walked, start_walked, optional_faults, optional_simple_walked}
use Rattle.elaboration.specs.Walking.{HasGone, HasAdded, context_of}
use Rattle.elaboration.proofs.Guarding.{guard_found, unguarded_is}
use Rattle.elaboration.proofs.Scoping.{closed, items_kept, start_kept}
use Rattle.elaboration.proofs.Walks.{staying, both_gone, step_on}
use Rattle.elaboration.proofs.Weights.{items_weight}
use Rattle.elaboration.proofs.statement.+statements.Goals as goal

pub items-loop-left-preserved-in-Declaration : goal.items-loop-left-preserved-in-Declaration
items-loop-left-preserved-in-Declaration t c =
    let now = c.loop-left.walk in
    let rest = items_of c.deref-left.result.now in
    let split : items_of c.loop-left.left.now ≡ tree.declaration (declaration_of c.in-Declaration.first) rest =
    rw (c.deref-left.ensures) (ap items_of c.in-Declaration.is)
    in
    let made = c.in_ok-declaration-in-Declaration.ensures in
    let weight = ap items_weight split in
    let lighter = c.loop-left.invariant.1 in (
      step_on now c.declaration.new.walk _ c.loop-left.out.items c.declaration.new.out.items _
          (declaration_walked (context_of c.args.context) now.scope (declaration_of c.in-Declaration.first)) (λ s. items_walked (context_of c.args.context) s rest)
          (items_walked (context_of c.args.context) now.scope (items_of c.loop-left.left.now)) _
          made.gone made.added (ap (items_walked (context_of c.args.context) now.scope) split) c.loop-left.invariant.0,
      omega (arith, weight, lighter),
    )

pub items-loop-left-preserved : goal.items-loop-left-preserved
items-loop-left-preserved t c =
    let now = c.loop-left.walk in
    let around = context_of c.args.context in
    let s = statement_of c.in-Statement.first.value in
    let rest = items_of c.in-Statement.rest.value in
    let split : items_of c.loop-left.left.now ≡ tree.statement s rest = ap items_of c.in-Statement.is in
    let free : guards around s ≡ false = sym (rw (c.deref.ensures) at c.is_guarded_by.ensures) ∙ c.if-is_guarded_by.false in
    let inner : context_of c.around.result ≡ around_statement around s rest =
    (rw (c.deref-in-Statement-2.ensures, c.deref-in-Statement-3.ensures) at c.around.ensures) free
    in
    let gone = rw (c.deref-in-Statement.ensures, inner) at c.in_ok-statement-in-Statement.ensures.gone in
    let added = rw (c.deref-in-Statement.ensures, inner) at c.in_ok-statement-in-Statement.ensures.added in
    let weight = ap items_weight split in
    let lighter = c.loop-left.invariant.1 in
    rw (c.deref-left-in-Statement.ensures) (
      step_on now c.statement.new.walk _ c.loop-left.out.items c.statement.new.out.items _
          (statement_walked (around_statement around s rest) now.scope s) (λ scope. items_walked around scope rest)
          (items_walked around now.scope (items_of c.loop-left.left.now)) _
          gone added (ap (items_walked around now.scope) split ∙ unguarded_is around now.scope s rest free) c.loop-left.invariant.0,
      omega (arith, weight, lighter),
    )

pub statement-returns-in-Conditional-clause-gone : goal.statement-returns-in-Conditional-clause-gone
statement-returns-in-Conditional-clause-gone t c =
    let is : statement_kind c.args.tree.now.kind
    ≡ tree.conditional (expression_of c.in-Conditional.test) (statement_of c.deref.result.now) (otherwise_of c.in-Conditional.other) =
    rw (c.deref.ensures) (ap statement_kind c.in-Conditional.is)
    in
    rw is c.conditional.ensures.gone

pub statement-returns-in-Conditional-clause-added : goal.statement-returns-in-Conditional-clause-added
statement-returns-in-Conditional-clause-added t c =
    let is : statement_kind c.args.tree.now.kind
    ≡ tree.conditional (expression_of c.in-Conditional.test) (statement_of c.deref.result.now) (otherwise_of c.in-Conditional.other) =
    rw (c.deref.ensures) (ap statement_kind c.in-Conditional.is)
    in
    rw is c.conditional.ensures.added

pub statement-returns-in_ok-items-in-Braces-clause-gone : goal.statement-returns-in_ok-items-in-Braces-clause-gone
statement-returns-in_ok-items-in-Braces-clause-gone t c =
    let outer = c.args.walk.now.scope in
    let all = items_of c.in-Braces.all in
    let inner = c.in_ok-inner-in-Braces.ensures in
    let gone = rw inner at c.in_ok-items-in-Braces.ensures.gone in
    let around = deeper (context_of c.args.context) in
    let is : statement_kind c.args.tree.now.kind ≡ tree.braces all = ap statement_kind c.in-Braces.is in
    rw is (
      gone.0,
      closed outer (items_walked around outer all).scope c.close.new.self c.depth-depth.result c.depth-depth.ensures
          (c.close.ensures ∙ ap (λ (s : Scope). record s { visible = take c.depth-depth.result s.visible }) gone.1)
          (items_kept around outer all),
      gone.2,
    )

pub statement-returns-in-Gives-clause-added : goal.statement-returns-in-Gives-clause-added
statement-returns-in-Gives-clause-added t c =
    let found = c.variable-target.ensures.found in
    let is : statement_kind c.args.tree.now.kind ≡ tree.gives (name_of c.in-Gives.target) (call_of c.in-Gives.call) = ap statement_kind c.in-Gives.is in
    rw is (rw (found.0, found.1, c.variable-target.ensures.place) at c.add_call-in-Gives.ensures.added)

pub for_loop-returns-clause-gone : goal.for_loop-returns-clause-gone
for_loop-returns-clause-gone t c =
    let old = c.args.walk.now in
    let begun = c.for_start.new.walk in
    let tested = c.optional_test.new.walk in
    let last = c.looped.new.walk in
    let start = start_of c.args.tree.now.start in
    let test = optional c.args.tree.now.test in
    let step = optional_simple_of c.args.tree.now.step in
    let part = statement_of c.args.tree.now.body in
    let around = looping (context_of c.args.context) in
    let outer = deeper (context_of c.args.context) in
    let went = rw c.in_ok-inner.ensures at c.in_ok-looped.ensures.gone in
    let inside = start_walked outer old.scope start in
    let gone =
    both_gone old begun last inside
    (λ s. joined (staying s (optional_faults s test)) (joined (staying s (optional_simple_walked s step).faults) (statement_walked around s part)))
    (rw c.in_ok-around.ensures at c.in_ok-for_start.ensures.gone)
    (both_gone begun tested last (staying begun.scope (optional_faults begun.scope test))
    (λ s. joined (staying s (optional_simple_walked s step).faults) (statement_walked around s part))
    c.in_ok-test.ensures.found
    (both_gone tested c.last_part.new.walk last (staying tested.scope (optional_simple_walked tested.scope step).faults) (λ s. statement_walked around s part)
    c.in_ok-step.ensures.found went))
    in (
      gone.0,
      closed old.scope (statement_walked around inside.scope part).scope c.close.new.self c.depth-depth.result c.depth-depth.ensures
          (c.close.ensures ∙ ap (λ (s : Scope). record s { visible = take c.depth-depth.result s.visible }) gone.1)
          (start_kept outer around old.scope start part),
      gone.2,
    )

pub conditional-returns-clause-gone : goal.conditional-returns-clause-gone
conditional-returns-clause-gone t c =
    let old = c.args.walk.now in
    let tested = c.test.new.self in
    let last = c.otherwise.new.walk in
    let part = statement_of c.args.part.now in
    let other = otherwise_of c.args.other.now in
    let around = deeper (context_of c.args.context) in
    let one = rw c.in_ok-inner.ensures at c.in_ok-yes.ensures.gone in
    let two = rw c.in_ok-inner.ensures at c.in_ok-no.ensures.gone in
    let faults = expression_faults old.scope (expression_of c.args.condition.now) in
    on_ok_weaker c.add.result
    (λ added. both_gone old tested last (staying old.scope faults)
    (λ s. joined (statement_walked around s part) (otherwise_walked around (statement_walked around s part).scope other))
    c.in_ok-test.ensures.found
    (both_gone tested c.body.new.walk last (statement_walked around tested.scope part) (λ s. otherwise_walked around s other) one two))
    c.add.ensures.meaning

pub do_loop-returns-clause-gone : goal.do_loop-returns-clause-gone
do_loop-returns-clause-gone t c =
    let old = c.args.walk.now in
    let condition = expression_of c.args.condition.now in
    let went = rw c.in_ok-inner.ensures at c.in_ok-body.ensures.gone in
    on_ok_weaker c.add.result
    (λ added. both_gone old c.body.new.walk c.test.new.self (statement_walked (looping (context_of c.args.context)) old.scope (statement_of c.args.part.now))
    (λ s. staying s (expression_faults s condition)) went c.in_ok-test.ensures.found)
    c.add.ensures.meaning

pub conditional-returns-clause-added : goal.conditional-returns-clause-added
conditional-returns-clause-added t c = grind (arith, common_steps)

pub do_loop-returns-clause-added : goal.do_loop-returns-clause-added
do_loop-returns-clause-added t c = grind (arith, common_steps)

pub for_loop-returns-in_err-test-clause-gone : goal.for_loop-returns-in_err-test-clause-gone
for_loop-returns-in_err-test-clause-gone t c = grind (arith, common_steps)

pub for_loop-returns-clause-added : goal.for_loop-returns-clause-added
for_loop-returns-clause-added t c = grind (arith, common_steps)

pub guard-returns-clause-gone : goal.guard-returns-clause-gone
guard-returns-clause-gone t c =
    let old = c.args.walk.now in
    let tested = c.test.new.self in
    let last = c.items.new.walk in
    let part = statement_of c.args.part.now in
    let more = items_of c.args.rest.now in
    let around = deeper (context_of c.args.context) in
    let one = rw c.in_ok-inner.ensures at c.in_ok-yes.ensures.gone in
    let two = rw c.in_ok-inner.ensures at c.in_ok-items.ensures.gone in
    let faults = expression_faults old.scope (expression_of c.args.condition.now) in
    on_ok_weaker c.add.result
    (λ added. both_gone old tested last (staying old.scope faults)
    (λ s. joined (statement_walked around s part) (items_walked around (statement_walked around s part).scope more))
    c.in_ok-test.ensures.found
    (both_gone tested c.body.new.walk last (statement_walked around tested.scope part) (λ s. items_walked around s more) one two))
    c.add.ensures.meaning

pub guarded-returns-in-Conditional-clause-gone : goal.guarded-returns-in-Conditional-clause-gone
guarded-returns-in-Conditional-clause-gone t c =
    let test = expression_of c.in-Conditional.test in
    let part = statement_of c.deref.result.now in
    let other = otherwise_of c.in-Conditional.other in
    let is : statement_kind c.args.tree.now.kind ≡ tree.conditional test part other = rw (c.deref.ensures) (ap statement_kind c.in-Conditional.is) in
    let guarding : guards (context_of c.args.context) (tree.statement_at c.args.tree.now.at (tree.conditional test part other)) ≡ true = rw is at c.requires.guards in
    let found = guard_found (context_of c.args.context) c.args.walk.now.scope c.args.tree.now.at test part other (items_of c.args.rest.now) guarding in
    let whole = ap (λ kind. items_walked (context_of c.args.context) c.args.walk.now.scope (tree.statement (tree.statement_at c.args.tree.now.at kind) (items_of c.args.rest.now))) is
    ∙ found
    in
    on_ok_weaker c.guard.result (λ h. subst (HasGone c.args.walk.now c.guard.new.walk) (sym whole) h) c.guard.ensures.gone

pub guarded-returns-in-Conditional-clause-added : goal.guarded-returns-in-Conditional-clause-added
guarded-returns-in-Conditional-clause-added t c =
    let test = expression_of c.in-Conditional.test in
    let part = statement_of c.deref.result.now in
    let other = otherwise_of c.in-Conditional.other in
    let is : statement_kind c.args.tree.now.kind ≡ tree.conditional test part other = rw (c.deref.ensures) (ap statement_kind c.in-Conditional.is) in
    let guarding : guards (context_of c.args.context) (tree.statement_at c.args.tree.now.at (tree.conditional test part other)) ≡ true = rw is at c.requires.guards in
    let found = guard_found (context_of c.args.context) c.args.walk.now.scope c.args.tree.now.at test part other (items_of c.args.rest.now) guarding in
    let whole = ap (λ kind. items_walked (context_of c.args.context) c.args.walk.now.scope (tree.statement (tree.statement_at c.args.tree.now.at kind) (items_of c.args.rest.now))) is
    ∙ found
    in
    on_ok_weaker c.guard.result (λ h. subst (HasAdded c.args.walk.now c.args.out.now.items c.guard.new.out.items) (sym whole) h) c.guard.ensures.added
