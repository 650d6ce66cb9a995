use Rattle.std.proofs.Common.{◌≡◌, ◌+◌, ◌∷◌, [], List, drop, length, map, replicate, sym, ap, subst, ◌∙◌, arith}
use Rattle.std.proofs.Math.Seq.{drop-length}
use Rattle.step_meaning.specs.declared.expression.Expr.{Expr}
use Rattle.step_meaning.specs.Syntax.{expression}
use Rattle.step_meaning.specs.Syntax as syntax
use Rattle.call_inline.specs.Inlined.{all_moved, passed, single}
use Rattle.call_inline.specs.Moved as moves
use Rattle.call_inline.specs.Laws.Writing.{AreAdded}
use Rattle.call_inline.proofs.Adding.{added_both, added_none}
use Rattle.call_inline.proofs.Below.{names_at}
use Rattle.call_inline.proofs.Deepest.{drop_here}
use Rattle.call_inline.proofs.writer.add_arguments.Goals as goal

pub loop-arg-init : goal.loop-arg-init
loop-arg-init c = record { place = omega arith; added = λ after added. added }

pub add_assignment-requires-clause-names : goal.add_assignment-requires-clause-names
add_assignment-requires-clause-names c = names_at 16 c.args.args.now c.loop-arg.arg-index c.arg-item.result (omega arith) c.arg-item.is c.requires.names

pub overflow_add-place : goal.overflow_add-place
overflow_add-place c = let h = c.loop-arg.invariant.place in let r = c.requires.places in omega arith

pub loop-arg-preserved : goal.loop-arg-preserved
loop-arg-preserved c =
    let place = c.loop-arg.place in
    let from = c.args.from in
    let arg = c.arg-item.result in
    let rest = drop (c.loop-arg.arg-index + 1) c.args.args.now in
    let here = drop_here c.args.args.now c.loop-arg.arg-index arg (omega arith) c.arg-item.is in
    let one = single (syntax.assign place (moves.moved from (expression arg))) in
    let left = passed (place + 1) (all_moved from (map expression rest)) in
    let at = c.args.at in
    record {
      place = (let h = c.loop-arg.invariant.place in omega arith);
      added = λ after added. c.loop-arg.invariant.added after
          (subst (λ (l : List Expr). AreAdded (passed place (all_moved from (map expression l))) (replicate (length l) at) c.loop-arg.list.items after) (sym here)
          (added_both one left (at ∷ []) (replicate (length rest) at) c.loop-arg.list.items c.add_assignment.new.list.items after c.in_ok-add_assignment.ensures added));
    }

pub returns : goal.returns
returns c =
    let place = c.loop-arg.place in
    let all : c.loop-arg.arg-index ≡ length c.args.args.now = omega arith in
    let none = ap (λ i. drop i c.args.args.now) all ∙ drop-length c.args.args.now in
    c.loop-arg.invariant.added c.loop-arg.list.items
    (subst (λ (l : List Expr). AreAdded (passed place (all_moved c.args.from (map expression l))) (replicate (length l) c.args.at) c.loop-arg.list.items c.loop-arg.list.items)
    (sym none) (added_none c.loop-arg.list.items))
