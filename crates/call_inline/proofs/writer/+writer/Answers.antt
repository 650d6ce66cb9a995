use Rattle.std.proofs.Common.{◌≡◌, ◌+◌, ◌<◌, ◌++◌, [], List, length, map, slice_index_or, sym, ap, subst, ◌∙◌, arith}
use Rattle.std.proofs.lemmas.List.{length-map}
use Rattle.std.proofs.lemmas.Result.{on_ok_weaker}
use Rattle.step_meaning.specs.declared.expression.Expr.{Expr}
use Rattle.step_meaning.specs.Offsets.{offsets}
use Rattle.step_meaning.specs.Syntax.{expression, statements}
use Rattle.step_meaning.specs.Syntax as syntax
use Rattle.call_meaning.specs.declared.statement.UnitKind.TheVariants.{Assign, Call, Skip, Return, Break, Continue, If, While, Do}
use Rattle.call_meaning.specs.Tables.{commands, command, main_routine, value_of}
use Rattle.call_meaning.specs.Units.{Routine, call}
use Rattle.call_inline.specs.Moved as moves
use Rattle.call_inline.specs.Inlined.{all_inlined, all_moved, callees, followed, inlined, target_from}
use Rattle.call_inline.specs.Laws.Standing.{routines}
use Rattle.call_inline.specs.Laws.Writing.{AllCanStand, AreAdded, CanStand, ending_of, returns_at}
use Rattle.call_inline.specs.Placed.{placed, placed_at, placed_calls}
use Rattle.call_inline.proofs.Adding.{added_both, added_none, added_same, one_added, block_made, if_added, while_added, do_added}
use Rattle.call_inline.proofs.Allowing.{func_stands, room}
use Rattle.call_inline.proofs.Below.{names_more, all_names_more, value_more}
use Rattle.call_inline.proofs.Placing.{placed_none}
use Rattle.call_inline.proofs.Put.{made_of, put_added, callees_nothing}
use Rattle.call_inline.proofs.Sizes.{size, size_of, weight_grows}
use Rattle.call_inline.proofs.Tabling.{found_body}
use Rattle.call_inline.proofs.Validly.{moved_length}
use Rattle.call_inline.proofs.writer.+writer.Goals as goal

-- ── `block` ──

pub block-add_all-requires : goal.block-add_all-requires
block-add_all-requires t c = (omega arith, (c.requires.layout, (c.requires.spot, c.requires.stands)))

pub block-returns : goal.block-returns
block-returns t c =
    block_made _ _ c.new-list.result.items c.add_all.new.list.items c.in_ok-made.made c.new-list.ensures.items c.in_ok-add_all.ensures c.in_ok-made.ensures.meaning
    c.in_ok-made.ensures.offsets

-- ── `add_all` ──

pub add_all-add_one-requires : goal.add_all-add_one-requires
add_all-add_one-requires t c =
    let table = routines c.args.unit.now in
    let k = c.args.spot.function in
    let h = c.loop-left.invariant in
    let stands = subst (λ b. AllCanStand table k (commands b)) c.in-Then.is h.stands in
    let sizes : size (commands c.loop-left.left.now) ≡ size_of (command c.deref-in-Then.result.now.kind) + size (commands c.in-Then.rest.value) =
    rw c.deref-in-Then.ensures (ap (λ b. size (commands b)) c.in-Then.is) in
    let fewer = h.fewer in
    (omega arith, (c.requires.layout, (c.requires.spot, rw c.deref-in-Then.ensures stands.0)))

pub add_all-loop-left-preserved : goal.add_all-loop-left-preserved
add_all-loop-left-preserved t c =
    let table = routines c.args.unit.now in
    let spot = c.args.spot in
    let h = c.loop-left.invariant in
    let calls = callees table spot.function in
    let places = placed_calls c.args.unit.now.funcs spot.function in
    let ending = ending_of spot.ending in
    let back = returns_at spot.ending in
    let kind = c.deref-in-Then.result.now.kind in
    let at = c.deref.result.now.at in
    let rest = c.deref-left.result.now in
    let sizes : size (commands c.loop-left.left.now) ≡ size_of (command kind) + size (commands rest) =
    rw (c.deref-in-Then.ensures, c.deref-left.ensures) (ap (λ b. size (commands b)) c.in-Then.is) in
    let made : all_inlined calls spot.base ending (commands c.loop-left.left.now) ≡ followed (inlined calls spot.base ending (command kind)) (all_inlined calls spot.base ending (commands rest)) =
    rw (c.deref-in-Then.ensures, c.deref-left.ensures) (ap (λ b. all_inlined calls spot.base ending (commands b)) c.in-Then.is) in
    let split : placed places back c.loop-left.left.now ≡ placed_at places back at kind ++ placed places back rest =
    rw (c.deref.ensures, c.deref-in-Then.ensures, c.deref-left.ensures) (ap (λ b. placed places back b) c.in-Then.is) in
    let stands = subst (λ b. AllCanStand table spot.function (commands b)) c.in-Then.is h.stands in
    record {
      fewer = let fewer = h.fewer in omega arith;
      stands = rw c.deref-left.ensures stands.1;
      added = λ after added. h.added after (added_same (followed (inlined calls spot.base ending (command kind)) (all_inlined calls spot.base ending (commands rest)))
          (all_inlined calls spot.base ending (commands c.loop-left.left.now)) (placed_at places back at kind ++ placed places back rest) (placed places back c.loop-left.left.now)
          c.loop-left.list.items after (sym made) (sym split)
          (added_both (inlined calls spot.base ending (command kind)) (all_inlined calls spot.base ending (commands rest)) (placed_at places back at kind) (placed places back rest)
          c.loop-left.list.items c.add_one.new.list.items after c.in_ok-add_one.ensures added));
    }

pub add_all-returns : goal.add_all-returns
add_all-returns t c =
    let spot = c.args.spot in
    let list = c.loop-left.list.items in
    c.loop-left.invariant.added list
    (subst (λ b. AreAdded (all_inlined (callees (routines c.args.unit.now) spot.function) spot.base (ending_of spot.ending) (commands b))
    (placed (placed_calls c.args.unit.now.funcs spot.function) (returns_at spot.ending) b) list list) (sym c.in_default.is) (added_none list))

-- ── `add_one` ──

pub add_one-add_call-requires : goal.add_one-add_call-requires
add_one-add_call-requires t c =
    let table = routines c.args.unit.now in
    let k = c.args.spot.function in
    let stands = subst (λ kind. CanStand table k (command kind)) c.in-Call.is c.requires.stands in
    let sizes : size_of (command c.args.kind.now) ≡ 1 = ap (λ k. size_of (command k)) c.in-Call.is in (
      omega arith,
      (
        c.requires.layout,
        (
          c.requires.spot,
          subst (λ (a : List Expr). CanStand table k (call c.in-Call.target c.in-Call.func (map expression a))) (sym c.items.ensures) stands,
        ),
      ),
    )

pub add_one-add_return-requires-clause-names : goal.add_one-add_return-requires-clause-names
add_one-add_return-requires-clause-names t c =
    let table = routines c.args.unit.now in
    let k = c.args.spot.function in
    let stands = subst (λ kind. CanStand table k (command kind)) c.in-Return.is c.requires.stands in
    let room = c.requires.spot.room in
    value_more (table k).vars 16 (value_of c.in-Return.value) (omega arith) stands

pub add_one-add_return-requires-clause-base : goal.add_one-add_return-requires-clause-base
add_one-add_return-requires-clause-base t c = let room = c.requires.spot.room in omega arith

pub add_one-moved-requires-clause-names : goal.add_one-moved-requires-clause-names
add_one-moved-requires-clause-names t c =
    let table = routines c.args.unit.now in
    let k = c.args.spot.function in
    let stands = subst (λ kind. CanStand table k (command kind)) c.in-If.is c.requires.stands in
    let room = c.requires.spot.room in
    names_more (table k).vars 16 (expression c.in-If.test) (omega arith) stands.0

pub add_one-moved-requires-clause-room : goal.add_one-moved-requires-clause-room
add_one-moved-requires-clause-room t c = let room = c.requires.spot.room in omega arith

pub add_one-block-requires : goal.add_one-block-requires
add_one-block-requires t c =
    let table = routines c.args.unit.now in
    let stands = subst (λ kind. CanStand table c.args.spot.function (command kind)) c.in-If.is c.requires.stands in
    let sizes : size_of (command c.args.kind.now) ≡ 1 + size (commands c.in-If.yes) + size (commands c.in-If.no) = ap (λ k. size_of (command k)) c.in-If.is in
    (omega arith, (c.requires.layout, (c.requires.spot, stands.1)))

pub add_one-block-requires-in-If : goal.add_one-block-requires-in-If
add_one-block-requires-in-If t c =
    let table = routines c.args.unit.now in
    let stands = subst (λ kind. CanStand table c.args.spot.function (command kind)) c.in-If.is c.requires.stands in
    let sizes : size_of (command c.args.kind.now) ≡ 1 + size (commands c.in-If.yes) + size (commands c.in-If.no) = ap (λ k. size_of (command k)) c.in-If.is in
    (omega arith, (c.requires.layout, (c.requires.spot, stands.2)))

pub add_one-moved-requires-in-While-clause-names : goal.add_one-moved-requires-in-While-clause-names
add_one-moved-requires-in-While-clause-names t c =
    let table = routines c.args.unit.now in
    let k = c.args.spot.function in
    let stands = subst (λ kind. CanStand table k (command kind)) c.in-While.is c.requires.stands in
    let room = c.requires.spot.room in
    names_more (table k).vars 16 (expression c.in-While.test) (omega arith) stands.0

pub add_one-moved-requires-in-While-clause-room : goal.add_one-moved-requires-in-While-clause-room
add_one-moved-requires-in-While-clause-room t c = let room = c.requires.spot.room in omega arith

pub add_one-block-requires-in-While : goal.add_one-block-requires-in-While
add_one-block-requires-in-While t c =
    let table = routines c.args.unit.now in
    let stands = subst (λ kind. CanStand table c.args.spot.function (command kind)) c.in-While.is c.requires.stands in
    let sizes : size_of (command c.args.kind.now) ≡ 1 + size (commands c.in-While.body) + size (commands c.in-While.step) = ap (λ k. size_of (command k)) c.in-While.is in
    (omega arith, (c.requires.layout, (c.requires.spot, stands.1)))

pub add_one-block-requires-in-While-2 : goal.add_one-block-requires-in-While-2
add_one-block-requires-in-While-2 t c =
    let table = routines c.args.unit.now in
    let stands = subst (λ kind. CanStand table c.args.spot.function (command kind)) c.in-While.is c.requires.stands in
    let sizes : size_of (command c.args.kind.now) ≡ 1 + size (commands c.in-While.body) + size (commands c.in-While.step) = ap (λ k. size_of (command k)) c.in-While.is in
    (omega arith, (c.requires.layout, (c.requires.spot, stands.2)))

pub add_one-block-requires-in-Do : goal.add_one-block-requires-in-Do
add_one-block-requires-in-Do t c =
    let table = routines c.args.unit.now in
    let stands = subst (λ kind. CanStand table c.args.spot.function (command kind)) c.in-Do.is c.requires.stands in
    let sizes : size_of (command c.args.kind.now) ≡ 1 + size (commands c.in-Do.body) = ap (λ k. size_of (command k)) c.in-Do.is in
    (omega arith, (c.requires.layout, (c.requires.spot, stands.0)))

pub add_one-moved-requires-in-Do-clause-names : goal.add_one-moved-requires-in-Do-clause-names
add_one-moved-requires-in-Do-clause-names t c =
    let table = routines c.args.unit.now in
    let k = c.args.spot.function in
    let stands = subst (λ kind. CanStand table k (command kind)) c.in-Do.is c.requires.stands in
    let room = c.requires.spot.room in
    names_more (table k).vars 16 (expression c.in-Do.test) (omega arith) stands.1

pub add_one-moved-requires-in-Do-clause-room : goal.add_one-moved-requires-in-Do-clause-room
add_one-moved-requires-in-Do-clause-room t c = let room = c.requires.spot.room in omega arith

pub add_one-overflow_add-spot : goal.add_one-overflow_add-spot
add_one-overflow_add-spot t c =
    let table = routines c.args.unit.now in
    let stands = subst (λ kind. CanStand table c.args.spot.function (command kind)) c.in-Assign.is c.requires.stands in
    let low = stands.0 in
    let room = c.requires.spot.room in
    omega arith

pub add_one-add_assignment-requires-clause-names : goal.add_one-add_assignment-requires-clause-names
add_one-add_assignment-requires-clause-names t c =
    let table = routines c.args.unit.now in
    let k = c.args.spot.function in
    let stands = subst (λ kind. CanStand table k (command kind)) c.in-Assign.is c.requires.stands in
    let room = c.requires.spot.room in
    names_more (table k).vars 16 (expression c.in-Assign.value) (omega arith) stands.1

pub add_one-add_assignment-requires-clause-from : goal.add_one-add_assignment-requires-clause-from
add_one-add_assignment-requires-clause-from t c = let room = c.requires.spot.room in omega arith

pub add_one-returns-in-Call : goal.add_one-returns-in-Call
add_one-returns-in-Call t c =
    let spot = c.args.spot in
    let calls = callees (routines c.args.unit.now) spot.function in
    let places = placed_calls c.args.unit.now.funcs spot.function in
    let ending = ending_of spot.ending in
    let back = returns_at spot.ending in
    let at = c.args.at in
    let old = c.args.list.now.items in
    let new = c.add_call.new.list.items in
    on_ok_weaker c.add_call.result
    (λ added. one_added calls spot.base ending places back at c.args.kind.now (Call c.in-Call.target c.in-Call.func c.in-Call.args c.in-Call.level) old new c.in-Call.is
    (subst (λ (a : List Expr). AreAdded (calls c.in-Call.func (target_from spot.base c.in-Call.target) (all_moved spot.base (map expression a))) (places c.in-Call.func at) old new)
    c.items.ensures added)) c.add_call.ensures

pub add_one-returns-in-Return : goal.add_one-returns-in-Return
add_one-returns-in-Return t c =
    let spot = c.args.spot in
    let calls = callees (routines c.args.unit.now) spot.function in
    let places = placed_calls c.args.unit.now.funcs spot.function in
    let ending = ending_of spot.ending in
    let back = returns_at spot.ending in
    let at = c.args.at in
    let old = c.args.list.now.items in
    let new = c.add_return.new.list.items in
    on_ok_weaker c.add_return.result
    (λ added. one_added calls spot.base ending places back at c.args.kind.now (Return c.in-Return.value) old new c.in-Return.is
    added) c.add_return.ensures

pub add_one-returns-in_ok-no-in-If : goal.add_one-returns-in_ok-no-in-If
add_one-returns-in_ok-no-in-If t c =
    let spot = c.args.spot in
    let calls = callees (routines c.args.unit.now) spot.function in
    let places = placed_calls c.args.unit.now.funcs spot.function in
    let ending = ending_of spot.ending in
    let back = returns_at spot.ending in
    let at = c.args.at in
    let old = c.args.list.now.items in
    let new = c.add.new.list.items in
    on_ok_weaker c.add.result
    (λ added. one_added calls spot.base ending places back at c.args.kind.now (If c.in-If.test c.in-If.yes c.in-If.no) old new c.in-If.is
    (if_added (expression c.in_ok-test-in-If.test) (moves.moved spot.base (expression c.in-If.test)) (statements c.in_ok-yes-in-If.yes) (statements c.in_ok-no-in-If.no)
    (all_inlined calls spot.base ending (commands c.in-If.yes)) (all_inlined calls spot.base ending (commands c.in-If.no)) (offsets c.in_ok-yes-in-If.yes) (offsets c.in_ok-no-in-If.no)
    (placed places back c.in-If.yes) (placed places back c.in-If.no) at old new c.in_ok-test-in-If.ensures c.in_ok-yes-in-If.ensures.meaning c.in_ok-no-in-If.ensures.meaning
    c.in_ok-yes-in-If.ensures.offsets c.in_ok-no-in-If.ensures.offsets added)) c.add.ensures

pub add_one-returns-in_ok-step-in-While : goal.add_one-returns-in_ok-step-in-While
add_one-returns-in_ok-step-in-While t c =
    let spot = c.args.spot in
    let calls = callees (routines c.args.unit.now) spot.function in
    let places = placed_calls c.args.unit.now.funcs spot.function in
    let ending = ending_of spot.ending in
    let back = returns_at spot.ending in
    let at = c.args.at in
    let old = c.args.list.now.items in
    let new = c.add-in-While.new.list.items in
    on_ok_weaker c.add-in-While.result
    (λ added. one_added calls spot.base ending places back at c.args.kind.now (While c.in-While.test c.in-While.body c.in-While.step) old new c.in-While.is
    (while_added (expression c.in_ok-test-in-While.test) (moves.moved spot.base (expression c.in-While.test)) (statements c.in_ok-body-in-While.body) (statements c.in_ok-step-in-While.step)
    (all_inlined calls spot.base ending (commands c.in-While.body)) (all_inlined calls spot.base ending (commands c.in-While.step)) (offsets c.in_ok-body-in-While.body) (offsets c.in_ok-step-in-While.step)
    (placed places back c.in-While.body) (placed places back c.in-While.step) at old new c.in_ok-test-in-While.ensures c.in_ok-body-in-While.ensures.meaning c.in_ok-step-in-While.ensures.meaning
    c.in_ok-body-in-While.ensures.offsets c.in_ok-step-in-While.ensures.offsets added)) c.add-in-While.ensures

pub add_one-returns-in_ok-test-in-Do : goal.add_one-returns-in_ok-test-in-Do
add_one-returns-in_ok-test-in-Do t c =
    let spot = c.args.spot in
    let calls = callees (routines c.args.unit.now) spot.function in
    let places = placed_calls c.args.unit.now.funcs spot.function in
    let ending = ending_of spot.ending in
    let back = returns_at spot.ending in
    let at = c.args.at in
    let old = c.args.list.now.items in
    let new = c.add-in-Do.new.list.items in
    on_ok_weaker c.add-in-Do.result
    (λ added. one_added calls spot.base ending places back at c.args.kind.now (Do c.in-Do.body c.in-Do.test) old new c.in-Do.is
    (do_added (expression c.in_ok-test-in-Do.test) (moves.moved spot.base (expression c.in-Do.test)) (statements c.in_ok-body-in-Do.body) (all_inlined calls spot.base ending (commands c.in-Do.body))
    (offsets c.in_ok-body-in-Do.body) (placed places back c.in-Do.body) at old new c.in_ok-test-in-Do.ensures c.in_ok-body-in-Do.ensures.meaning c.in_ok-body-in-Do.ensures.offsets added)) c.add-in-Do.ensures

pub add_one-returns-in-Assign : goal.add_one-returns-in-Assign
add_one-returns-in-Assign t c =
    let spot = c.args.spot in
    let calls = callees (routines c.args.unit.now) spot.function in
    let places = placed_calls c.args.unit.now.funcs spot.function in
    let ending = ending_of spot.ending in
    let back = returns_at spot.ending in
    let at = c.args.at in
    let old = c.args.list.now.items in
    let new = c.add_assignment.new.list.items in
    on_ok_weaker c.add_assignment.result
    (λ added. one_added calls spot.base ending places back at c.args.kind.now (Assign c.in-Assign.var c.in-Assign.value) old new c.in-Assign.is
    added) c.add_assignment.ensures

pub add_one-returns-in-Skip : goal.add_one-returns-in-Skip
add_one-returns-in-Skip t c =
    let spot = c.args.spot in
    let calls = callees (routines c.args.unit.now) spot.function in
    let places = placed_calls c.args.unit.now.funcs spot.function in
    let ending = ending_of spot.ending in
    let back = returns_at spot.ending in
    let at = c.args.at in
    let old = c.args.list.now.items in
    let new = c.add-in-Skip.new.list.items in
    on_ok_weaker c.add-in-Skip.result
    (λ added. one_added calls spot.base ending places back at c.args.kind.now (Skip) old new c.in-Skip.is
    added) c.add-in-Skip.ensures

pub add_one-returns-in-Break : goal.add_one-returns-in-Break
add_one-returns-in-Break t c =
    let spot = c.args.spot in
    let calls = callees (routines c.args.unit.now) spot.function in
    let places = placed_calls c.args.unit.now.funcs spot.function in
    let ending = ending_of spot.ending in
    let back = returns_at spot.ending in
    let at = c.args.at in
    let old = c.args.list.now.items in
    let new = c.add-in-Break.new.list.items in
    on_ok_weaker c.add-in-Break.result
    (λ added. one_added calls spot.base ending places back at c.args.kind.now (Break) old new c.in-Break.is
    added) c.add-in-Break.ensures

pub add_one-returns-in-Continue : goal.add_one-returns-in-Continue
add_one-returns-in-Continue t c =
    let spot = c.args.spot in
    let calls = callees (routines c.args.unit.now) spot.function in
    let places = placed_calls c.args.unit.now.funcs spot.function in
    let ending = ending_of spot.ending in
    let back = returns_at spot.ending in
    let at = c.args.at in
    let old = c.args.list.now.items in
    let new = c.add-in-Continue.new.list.items in
    on_ok_weaker c.add-in-Continue.result
    (λ added. one_added calls spot.base ending places back at c.args.kind.now (Continue) old new c.in-Continue.is
    added) c.add-in-Continue.ensures

-- ── `add_call` ──

pub add_call-returns-then-is_idle : goal.add_call-returns-then-is_idle
add_call-returns-then-is_idle t c =
    let unit = c.args.unit.now in
    let table = routines unit in
    let spot = c.args.spot in
    let k = spot.function in
    let f = c.args.func in
    let stands = c.requires.stands in
    let known = c.requires.spot.known in
    let low : f < length unit.funcs = (let below = stands.0 in omega arith) in
    let shown = sym c.is_idle.ensures ∙ c.if-is_idle.true in
    let target = target_from spot.base c.args.target in
    let arguments = all_moved spot.base (map expression c.args.args.now) in
    let many = moved_length spot.base (map expression c.args.args.now) ∙ stands.3 in
    let none = callees_nothing table k (length unit.funcs) f target arguments stands.0 low (c.requires.layout.made f low shown target arguments many) in
    let places = placed_none unit.funcs k f c.args.at stands.0 known (c.requires.layout.placed f low shown c.args.at) in
    added_same syntax.empty (callees table k f target arguments) [] (placed_calls unit.funcs k f c.args.at) c.args.list.now.items c.args.list.now.items (sym none) (sym places)
    (added_none c.args.list.now.items)

pub add_call-add_arguments-requires-clause-names : goal.add_call-add_arguments-requires-clause-names
add_call-add_arguments-requires-clause-names t c =
    let table = routines c.args.unit.now in
    let room = c.requires.spot.room in
    all_names_more (table c.args.spot.function).vars 16 (map expression c.args.args.now) (omega arith) c.requires.stands.2

pub add_call-add_arguments-requires-clause-from : goal.add_call-add_arguments-requires-clause-from
add_call-add_arguments-requires-clause-from t c = let room = c.requires.spot.room in omega arith

pub add_call-add_arguments-requires-clause-places : goal.add_call-add_arguments-requires-clause-places
add_call-add_arguments-requires-clause-places t c =
    let unit = c.args.unit.now in
    let f = c.args.func in
    let known = c.requires.spot.known in
    let below = c.requires.stands.0 in
    let low : f < length unit.funcs = omega arith in
    let base = c.base.ensures ∙ c.requires.layout.bases f low in
    let inside = room unit.func_names unit.funcs unit.names unit.body unit.valid f (omega arith) in
    let params = unit.valid.tidy.params f low in
    let many = c.requires.stands.3 in
    let same = length-map c.args.args.now expression in
    omega arith

pub add_call-add_choices-requires : goal.add_call-add_choices-requires
add_call-add_choices-requires t c =
    let unit = c.args.unit.now in
    let f = c.args.func in
    let known = c.requires.spot.known in
    let below = c.requires.stands.0 in
    let low : f < length unit.funcs = omega arith in
    let base = c.base.ensures ∙ c.requires.layout.bases f low in
    let inside = room unit.func_names unit.funcs unit.names unit.body unit.valid f (omega arith) in
    omega arith

pub add_call-add_all-requires : goal.add_call-add_all-requires
add_call-add_all-requires t c =
    let unit = c.args.unit.now in
    let f = c.args.func in
    let known = c.requires.spot.known in
    let below = c.requires.stands.0 in
    let low : f < length unit.funcs = omega arith in
    let base = c.base.ensures ∙ c.requires.layout.bases f low in
    let inside = room unit.func_names unit.funcs unit.names unit.body unit.valid f (omega arith) in
    let callee = c.index-items-func.result in
    let is = c.index-items-func.is ∙ ap (λ l. slice_index_or l f callee) c.items.ensures in
    let body = found_body (length unit.names) unit.funcs (main_routine unit.names unit.body) f callee low is in
    let sizes = ap size body in
    let grows = weight_grows (routines unit) f c.args.spot.function below in
    (omega arith, (c.requires.layout, (record { known = omega arith; base = base; room = omega arith }, subst (AllCanStand (routines unit) f) body (func_stands unit.func_names unit.funcs unit.names unit.body unit.valid f low))))

pub add_call-returns : goal.add_call-returns
add_call-returns t c =
    let unit = c.args.unit.now in
    let f = c.args.func in
    let known = c.requires.spot.known in
    let below = c.requires.stands.0 in
    let low : f < length unit.funcs = omega arith in
    let base = c.base.ensures ∙ c.requires.layout.bases f low in
    let inside = room unit.func_names unit.funcs unit.names unit.body unit.valid f (omega arith) in
    let callee = c.index-items-func.result in
    let is = c.index-items-func.is ∙ ap (λ l. slice_index_or l f callee) c.items.ensures in
    let spot = c.args.spot in
    let target = target_from spot.base c.args.target in
    let arguments = all_moved spot.base (map expression c.args.args.now) in
    let made = made_of unit.funcs unit.names unit.body spot.function f callee below known is in
    let count = sym (length-map c.args.args.now expression) ∙ c.requires.stands.3 ∙ ap (λ (r : Routine). r.params) made in
    on_ok_weaker c.add_all.result
    (λ third. put_added unit.funcs unit.names unit.body spot.function f callee below known is target arguments c.args.at c.base.result (length c.args.args.now)
    (ending_of c.ending_at.result) (returns_at c.ending_at.result) c.args.list.now.items c.add_arguments.new.list.items c.add_choices.new.list.items c.add_all.new.list.items
    count base c.ending_at.ensures.meaning c.ending_at.ensures.place c.in_ok-add_arguments.ensures c.in_ok-add_choices.ensures third) c.add_all.ensures
