use Rattle.std.proofs.Common.{◌≡◌, length, sym, ap, subst, ◌∙◌, arith}
use Rattle.call_meaning.specs.Tables.{commands, main_routine}
use Rattle.call_meaning.specs.Units.{Routine}
use Rattle.call_inline.specs.Inlined.{all_inlined, callees, ends, inlined_body}
use Rattle.call_inline.specs.Laws.Standing.{routines}
use Rattle.call_inline.specs.Laws.Writing.{AllCanStand}
use Rattle.call_inline.specs.Placed.{placed, placed_calls, placed_unit}
use Rattle.call_inline.proofs.Adding.{block_same}
use Rattle.call_inline.proofs.Allowing.{main_stands, room}
use Rattle.call_inline.proofs.Tabling.{past}
use Rattle.call_inline.proofs.writer.written.Goals as goal

pub block-requires-clause-spot : goal.block-requires-clause-spot
block-requires-clause-spot c =
    let unit = c.args.unit.now in
    let n = length c.items.result.now in
    let same : n ≡ length unit.funcs = ap length c.items.ensures in
    let main = past (length unit.names) unit.funcs (main_routine unit.names unit.body) n (omega arith) in
    let inside = room unit.func_names unit.funcs unit.names unit.body unit.valid n (omega arith) in
    record { known = omega arith; base = sym (ap (λ (r : Routine). r.base) main); room = omega arith }

pub block-requires-clause-stands : goal.block-requires-clause-stands
block-requires-clause-stands c =
    let unit = c.args.unit.now in
    subst (λ k. AllCanStand (routines unit) k (commands unit.body)) (sym (ap length c.items.ensures)) (main_stands unit.func_names unit.funcs unit.names unit.body unit.valid)

pub returns : goal.returns
returns c =
    let unit = c.args.unit.now in
    let table = routines unit in
    let n = length c.items.result.now in
    let whole = length unit.funcs in
    let same : n ≡ whole = ap length c.items.ensures in
    let main = past (length unit.names) unit.funcs (main_routine unit.names unit.body) whole (omega arith) in
    let made = ap (λ k. all_inlined (callees table k) 0 ends (commands unit.body)) same ∙ sym (ap (λ (r : Routine). all_inlined (callees table whole) r.base ends r.body) main) in
    block_same (all_inlined (callees table n) 0 ends (commands unit.body)) (inlined_body table whole) (placed (placed_calls unit.funcs n) (λ own. own) unit.body)
    (placed_unit unit.funcs unit.body) c.in_ok-body.body made (ap (λ k. placed (placed_calls unit.funcs k) (λ own. own) unit.body) same) c.in_ok-body.ensures
