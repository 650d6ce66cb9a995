use Rattle.std.proofs.Common.{◌≡◌, Some, sym, ap, ◌∙◌}
use Rattle.std.proofs.lemmas.Result.{on_ok_weaker}
use Rattle.concrete_syntax.specs.declared.simple.Value.TheVariants as Given
use Rattle.concrete_syntax.specs.Mirror.{call as call_of, value, optional_value}
use Rattle.concrete_syntax.specs.Trees.{answers}
use Rattle.typed_expressions.specs.Scopes.{Scope, place_of, with_variable}
use Rattle.typed_expressions.proofs.Ahead.{place_ahead}
use Rattle.elaboration.proofs.simple.part.Goals as goal

pub returns-in_ok-add_call-in-Some-Call-clause-added : goal.returns-in_ok-add_call-in-Some-Call-clause-added
returns-in_ok-add_call-in-Some-Call-clause-added c =
    let old = c.args.walk.now.scope in
    let name = c.args.tree.now.declared.bytes.items in
    let found = c.need_new.ensures in
    let given : c.in-Some-Call.field-0 ≡ Given.Call c.in-Some-Call.call = rw c.in-Some-Call.is at c.in-Some-Call.field-0-is in
    let is : optional_value c.args.tree.now.initialiser ≡ Some (answers (call_of c.in-Some-Call.call)) =
    ap optional_value c.in-Some-Call.is ∙ ap (λ v. Some (value v)) given
    in
    let place : c.place-target.result ≡ place_of (with_variable old.others old.declared name) name =
    c.place-target.ensures
    ∙ ap (place_of c.need_new.new.walk.scope.declared) c.deref-in-Some-Call.ensures.value
    ∙ ap (λ (s : Scope). place_of s.declared name) found.1
    ∙ sym (place_ahead old.others old.declared name)
    in
    on_ok_weaker c.declare-in-Some-Call.result (λ declared. rw is (rw (found.0, found.1, place) at c.in_ok-add_call-in-Some-Call.ensures.added))
    c.declare-in-Some-Call.ensures
