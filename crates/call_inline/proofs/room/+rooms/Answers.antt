use Rattle.std.proofs.Common.{◌≡◌, ◌+◌, ◌<◌, ◌++◌, length, replicate, slice_index_or, Some, Ok, Err, sym, ap, subst, ◌∙◌, arith}
use Rattle.std.proofs.lemmas.Result.{err_from_is_err_and}
use Rattle.std.specs.List.{slice_get}
use Rattle.call_meaning.specs.Tables.{commands, command, main_routine, places_from}
use Rattle.call_inline.specs.Placed.{placed, placed_at, placed_calls}
use Rattle.call_inline.specs.Laws.Standing.{AllGoBelow, Takes, back_of, routines}
use Rattle.call_inline.proofs.Allowing.{func_below}
use Rattle.call_inline.proofs.Placing.{get_first, takes_both, placed_here, placed_nothing}
use Rattle.call_inline.proofs.Sizes.{size, size_of, weight_grows}
use Rattle.call_inline.proofs.Tabling.{found_body}
use Rattle.call_inline.proofs.room.+rooms.Goals as goal

pub room_behind-returns-in_err-room : goal.room_behind-returns-in_err-room
room_behind-returns-in_err-room t c =
    let calls = placed_calls c.args.unit.now.funcs c.args.function in
    let back = back_of c.args.back in
    let split : placed calls back c.loop-left.left.now ≡ placed_at calls back c.deref.result.now.at c.deref-in-Then.result.now.kind ++ placed calls back c.in-Then.rest.value =
    rw (c.deref.ensures, c.deref-in-Then.ensures) (ap (λ b. placed calls back b) c.in-Then.is) in
    let at = c.in_err-room.field-0.0 in
    let here = get_first (placed_at calls back c.deref.result.now.at c.deref-in-Then.result.now.kind) (placed calls back c.in-Then.rest.value) c.loop-left.room at c.in_err-room.ensures in
    let p = err_from_is_err_and c.from_residual.result c.from_residual.ensures.1 in
    rw (p.1, p.2) (c.loop-left.invariant.takes (Err at) (subst (λ places. slice_get places c.loop-left.room ≡ Some at) (sym split) here))

pub room_behind-loop-left-preserved : goal.room_behind-loop-left-preserved
room_behind-loop-left-preserved t c =
    let h = c.loop-left.invariant in
    let calls = placed_calls c.args.unit.now.funcs c.args.function in
    let back = back_of c.args.back in
    let split : placed calls back c.loop-left.left.now ≡ placed_at calls back c.deref.result.now.at c.deref-in-Then.result.now.kind ++ placed calls back c.deref-left.result.now =
    rw (c.deref.ensures, c.deref-in-Then.ensures, c.deref-left.ensures) (ap (λ b. placed calls back b) c.in-Then.is) in
    let sizes : size (commands c.loop-left.left.now) ≡ size_of (command c.deref-in-Then.result.now.kind) + size (commands c.deref-left.result.now) =
    rw (c.deref-in-Then.ensures, c.deref-left.ensures) (ap (λ b. size (commands b)) c.in-Then.is) in
    let below = subst (λ b. AllGoBelow c.args.function (commands b)) c.in-Then.is h.calls in
    record {
      fewer = let fewer = h.fewer in omega arith;
      calls = rw c.deref-left.ensures below.1;
      takes = λ result taken. h.takes result (subst (λ places. Takes places c.loop-left.room result) (sym split)
          (takes_both (placed_at calls back c.deref.result.now.at c.deref-in-Then.result.now.kind) (placed calls back c.deref-left.result.now) c.loop-left.room c.in_ok-room.room result
          c.in_ok-room.ensures taken));
    }

pub room_behind-returns : goal.room_behind-returns
room_behind-returns t c =
    let room = c.loop-left.room in
    let calls = placed_calls c.args.unit.now.funcs c.args.function in
    c.loop-left.invariant.takes (Ok room) (subst (λ b. room + length (placed calls (back_of c.args.back) b) ≡ room) (sym c.in_default.is) (omega arith))

pub room_behind_call-returns-then-is_idle : goal.room_behind_call-returns-then-is_idle
room_behind_call-returns-then-is_idle t c =
    let known = c.requires.known in
    placed_nothing c.args.unit.now.funcs c.args.function c.args.func c.args.at c.args.room c.requires.below known
    (c.requires.layout.placed c.args.func (omega arith) (sym c.is_idle.ensures ∙ c.if-is_idle.true) c.args.at)

-- a call's offsets: for the parameters, for the variables declared without initialiser, and of the body
pub room_behind_call-returns-in_err-room : goal.room_behind_call-returns-in_err-room
room_behind_call-returns-in_err-room t c =
    let callee = c.index-items-func.result in
    let funcs = c.args.unit.now.funcs in
    let is = c.index-items-func.is ∙ ap (λ l. slice_index_or l c.args.func callee) c.items.ensures in
    let all = placed_here funcs c.args.function c.args.func callee c.args.at c.requires.below c.requires.known is in
    let body = placed (placed_calls funcs c.args.func) (back_of (Some c.args.at)) callee.body in
    let at = c.in_err-room.field-0.0 in
    let here = get_first (replicate callee.params c.args.at) (replicate (length (places_from 0 callee.free)) c.args.at ++ body) c.args.room at c.in_err-room.ensures in
    let p = err_from_is_err_and c.from_residual.result c.from_residual.ensures.1 in
    rw (p.1, p.2) (subst (λ places. slice_get places c.args.room ≡ Some at) (sym all) here)

pub room_behind_call-returns-in_err-room-2 : goal.room_behind_call-returns-in_err-room-2
room_behind_call-returns-in_err-room-2 t c =
    let callee = c.index-items-func.result in
    let funcs = c.args.unit.now.funcs in
    let is = c.index-items-func.is ∙ ap (λ l. slice_index_or l c.args.func callee) c.items.ensures in
    let all = placed_here funcs c.args.function c.args.func callee c.args.at c.requires.below c.requires.known is in
    let params = replicate callee.params c.args.at in
    let unset = replicate (length (places_from 0 callee.free)) c.args.at in
    let body = placed (placed_calls funcs c.args.func) (back_of (Some c.args.at)) callee.body in
    let at = c.in_err-room-2.field-0.0 in
    let found = subst (λ n. slice_get (replicate n c.args.at) c.in_ok-room.room ≡ Some at) c.count_free.ensures c.in_err-room-2.ensures in
    let here = get_first unset body c.in_ok-room.room at found in
    let both = takes_both params (unset ++ body) c.args.room c.in_ok-room.room (Err at) c.in_ok-room.ensures here in
    let p = err_from_is_err_and c.from_residual-in_err-room-2.result c.from_residual-in_err-room-2.ensures.1 in
    rw (p.1, p.2) (subst (λ places. slice_get places c.args.room ≡ Some at) (sym all) both)

pub room_behind_call-room_behind-requires : goal.room_behind_call-room_behind-requires
room_behind_call-room_behind-requires t c =
    let unit = c.args.unit.now in
    let callee = c.index-items-func.result in
    let known = c.requires.known in
    let below = c.requires.below in
    let low : c.args.func < length unit.funcs = omega arith in
    let is = c.index-items-func.is ∙ ap (λ l. slice_index_or l c.args.func callee) c.items.ensures in
    let body = found_body (length unit.names) unit.funcs (main_routine unit.names unit.body) c.args.func callee low is in
    let sizes = ap size body in
    let grows = weight_grows (routines unit) c.args.func c.args.function below in
    (omega arith, (c.requires.layout, (omega arith, subst (AllGoBelow c.args.func) body (func_below unit.func_names unit.funcs unit.names unit.body unit.valid c.args.func low))))

pub room_behind_call-returns-in_err-room-3 : goal.room_behind_call-returns-in_err-room-3
room_behind_call-returns-in_err-room-3 t c =
    let callee = c.index-items-func.result in
    let funcs = c.args.unit.now.funcs in
    let is = c.index-items-func.is ∙ ap (λ l. slice_index_or l c.args.func callee) c.items.ensures in
    let all = placed_here funcs c.args.function c.args.func callee c.args.at c.requires.below c.requires.known is in
    let params = replicate callee.params c.args.at in
    let unset = replicate (length (places_from 0 callee.free)) c.args.at in
    let body = placed (placed_calls funcs c.args.func) (back_of (Some c.args.at)) callee.body in
    let at = c.in_err-room-3.field-0.0 in
    let left = subst (λ n. c.in_ok-room-2.room + length (replicate n c.args.at) ≡ c.in_ok-room.room) c.count_free.ensures c.in_ok-room-2.ensures in
    let two = takes_both unset body c.in_ok-room.room c.in_ok-room-2.room (Err at) left c.in_err-room-3.ensures in
    let both = takes_both params (unset ++ body) c.args.room c.in_ok-room.room (Err at) c.in_ok-room.ensures two in
    let p = err_from_is_err_and c.from_residual-in_err-room-3.result c.from_residual-in_err-room-3.ensures.1 in
    rw (p.1, p.2) (subst (λ places. slice_get places c.args.room ≡ Some at) (sym all) both)

pub room_behind_call-returns : goal.room_behind_call-returns
room_behind_call-returns t c =
    let callee = c.index-items-func.result in
    let funcs = c.args.unit.now.funcs in
    let is = c.index-items-func.is ∙ ap (λ l. slice_index_or l c.args.func callee) c.items.ensures in
    let all = placed_here funcs c.args.function c.args.func callee c.args.at c.requires.below c.requires.known is in
    let params = replicate callee.params c.args.at in
    let unset = replicate (length (places_from 0 callee.free)) c.args.at in
    let body = placed (placed_calls funcs c.args.func) (back_of (Some c.args.at)) callee.body in
    let rest = c.in_ok-room-3.room in
    let left = subst (λ n. c.in_ok-room-2.room + length (replicate n c.args.at) ≡ c.in_ok-room.room) c.count_free.ensures c.in_ok-room-2.ensures in
    let two = takes_both unset body c.in_ok-room.room c.in_ok-room-2.room (Ok rest) left c.in_ok-room-3.ensures in
    let both = takes_both params (unset ++ body) c.args.room c.in_ok-room.room (Ok rest) c.in_ok-room.ensures two in
    subst (λ places. rest + length places ≡ c.args.room) (sym all) both
