use Rattle.std.proofs.Common.{◌≡◌, ◌≤◌, [], ◌++◌, length, get_or, map, vec_items, sym, ap, ◌∙◌, arith}
use Rattle.std.proofs.lemmas.List.{length-map, length_push}
use Rattle.std.proofs.lemmas.Slice.Zip.{zip_end, zip_turn}
use Rattle.std.proofs.Math.ListN.{get_or-map}
use Rattle.call_meaning.specs.Tables.{all_qualified, qualified}
use Rattle.call_inline.proofs.Naming.{behind_all, behind_nothing, function_added, functions_done}
use Rattle.call_inline.proofs.inlining.whole_names.Goals as goal

pub loop-function-init : goal.loop-function-init
loop-function-init c =
    let unit = c.args.unit.now in
    let own = c.in_ok-add_names.ensures ∙ ap (λ l. map vec_items l ++ behind_all [] (map vec_items c.items.result.now)) c.new-list.ensures.items
    ∙ behind_nothing (map vec_items c.items.result.now) ∙ c.items.ensures in
    ap (λ l. l ++ all_qualified unit.func_names unit.funcs) own

pub loop-function-preserved : goal.loop-function-preserved
loop-function-preserved c =
    let unit = c.args.unit.now in
    let functions = c.items-functions.result.now in
    let i = length c.loop-function.yielded in
    let turn = zip_turn functions c.items-2.result.now c.loop-function.yielded c.into_iter-function-iterator.result c.loop-function.function-iterator c.next.new.self c.next.result
    (cc) (cc) c.loop-function.yielded_by (c.in-Some.function, c.in-Some.func) c.in-Some.is c.next.ensures.steps in
    let name = c.in-Some.function.now in
    let func = c.in-Some.func.now in
    let low = turn.0 in
    let lower = turn.1 in
    let names_long : length functions ≡ length unit.func_names = sym (length-map functions vec_items) ∙ ap length c.items-functions.ensures in
    let funcs_long : length c.items-2.result.now ≡ length unit.funcs = ap length c.items-2.ensures in
    let name_is = sym (ap (λ l. get_or l i name.items) (sym c.items-functions.ensures) ∙ get_or-map vec_items functions i name ∙ ap vec_items (sym (turn.2 name))) in
    let func_is = turn.3 func ∙ ap (λ l. get_or l i func) c.items-2.ensures in
    let step = c.in_ok-add_qualified.ensures ∙ ap (λ l. map vec_items c.loop-function.list.items ++ qualified c.deref.result.now l) c.items-in-loop-function.ensures
    ∙ ap (λ l. map vec_items c.loop-function.list.items ++ qualified l func.names) c.deref.ensures.value in
    let more = function_added (map vec_items c.loop-function.list.items) (map vec_items c.add_qualified.new.list.items) unit.func_names unit.funcs i name.items func
    (omega arith) (omega arith) name_is func_is step in
    let one = length_push c.loop-function.yielded (c.in-Some.function, c.in-Some.func) in
    rw one (more ∙ c.loop-function.invariant)

pub returns : goal.returns
returns c =
    let unit = c.args.unit.now in
    let functions = c.items-functions.result.now in
    let end = zip_end functions c.items-2.result.now c.loop-function.yielded c.into_iter-function-iterator.result c.loop-function.function-iterator c.next.new.self c.next.result
    (cc) (cc) c.loop-function.yielded_by c.in-None.is c.next.ensures.steps in
    let names_long : length functions ≡ length unit.func_names = sym (length-map functions vec_items) ∙ ap length c.items-functions.ensures in
    let funcs_long : length c.items-2.result.now ≡ length unit.funcs = ap length c.items-2.ensures in
    let named = unit.valid.named in
    let past : length unit.func_names ≤ length c.loop-function.yielded = omega arith in
    c.of.ensures ∙ sym (functions_done (map vec_items c.loop-function.list.items) unit.func_names unit.funcs (length c.loop-function.yielded) past) ∙ c.loop-function.invariant
