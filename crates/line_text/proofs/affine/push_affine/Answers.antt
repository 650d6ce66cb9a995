use Rattle.std.proofs.lemmas.Grind.{common_steps}
use Rattle.std.proofs.Common.{◌≡◌, ℕ, ◌≤◌, ◌++◌, List, pos, length, vec_items, Some, None, slice_get, option_map, sym, ap, ◌∙◌, arith, rules, SFits}
use Rattle.std.specs.Int.{w128}
use Rattle.std.proofs.lemmas.Int.{to_z-of_z}
use Rattle.std.proofs.lemmas.List.{length-map, length_push}
use Rattle.std.proofs.lemmas.Option.{slice_get-get_or, slice_get-map}
use Rattle.std.proofs.lemmas.Result.{on_ok_weaker}
use Rattle.std.proofs.lemmas.Slice.Zip.{zip_end, zip_turn}
use Rattle.line_text.specs.AffineText.{term_of}
use Rattle.line_text.specs.Parts.{rest_text}
use Rattle.line_text.proofs.Buffers.{kept_after}
use Rattle.line_text.proofs.Parts.{none_left, one_more}
use Rattle.line_text.proofs.affine.push_affine.Goals as goal

pub loop-number-preserved : goal.loop-number-preserved
loop-number-preserved c =
    let turn = zip_turn c.args.affine.now.coef c.items.result.now c.loop-number.yielded c.into_iter-number-iterator.result
    c.loop-number.number-iterator c.next.new.self c.next.result (cc) (cc) c.loop-number.yielded_by (c.in-Some.number, c.in-Some.name)
    c.in-Some.is c.next.ensures.steps in
    let i = length c.loop-number.yielded in
    let value = c.deref.ensures.value in
    let there = turn.3 c.in-Some.name.now in
    let below = turn.0 in
    let named : slice_get c.args.names.now i ≡ Some c.deref.result.now = ap (λ t. slice_get t i) (sym c.items.ensures)
    ∙ (slice_get-map vec_items c.items.result.now i ∙ (ap (option_map vec_items)
    (slice_get-get_or c.items.result.now i c.in-Some.name.now turn.1)
    ∙ ap (λ (t : List ℕ). Some t) (ap vec_items (sym there) ∙ sym value))) in
    let fits : SFits w128 c.in-Some.number.now = search rules in
    let number = to_z-of_z w128 c.in-Some.number.now fits ∙ turn.2 (pos 0) in
    let more = one_more c.args.names.now c.args.affine.now.coef i c.deref.result.now _ c.loop-number.begun c.in_ok-begun.begun
    (term_of c.args.affine.now.constant None) _ c.loop-number.text.items _ named below number c.in_ok-begun.ensures.text
    c.loop-number.invariant.text in
    let one = length_push c.loop-number.yielded (c.in-Some.number, c.in-Some.name) in
    record { text = rw one more; kept = kept_after c.loop-number.invariant.kept c.in_ok-begun.ensures.kept }

pub returns-clause-text : goal.returns-clause-text
returns-clause-text c =
    let end = zip_end c.args.affine.now.coef c.items.result.now c.loop-number.yielded c.into_iter-number-iterator.result
    c.loop-number.number-iterator c.next.new.self c.next.result (cc) (cc) c.loop-number.yielded_by c.in-None.is c.next.ensures.steps in
    let count : length c.args.names.now ≡ length c.items.result.now = ap length (sym c.items.ensures)
    ∙ length-map c.items.result.now vec_items in
    let few = c.requires.few in
    let places = c.requires.places in
    let past : length c.args.names.now ≤ length c.loop-number.yielded = omega arith in
    let fits : SFits w128 c.args.affine.now.constant = search rules in
    let number = to_z-of_z w128 c.args.affine.now.constant fits in
    let whole = none_left c.args.names.now c.args.affine.now.coef (length c.loop-number.yielded) c.loop-number.begun
    (term_of c.args.affine.now.constant None) _ _ past c.loop-number.invariant.text in
    on_ok_weaker c.push_constant.result (λ e. e ∙ (ap (λ z. c.loop-number.text.items ++ rest_text c.loop-number.begun (term_of z None))
    number ∙ whole)) c.push_constant.ensures.text

pub returns-clause-kept : goal.returns-clause-kept
returns-clause-kept c = kept_after c.loop-number.invariant.kept c.push_constant.ensures.kept

pub returns-in_err-begun-clause-kept : goal.returns-in_err-begun-clause-kept
returns-in_err-begun-clause-kept c = grind (arith, common_steps)
