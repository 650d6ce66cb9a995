use Rattle.std.proofs.Common.{◌≡◌, ◌∙◌, ◌<◌, ℕ, ℤ, List, length, Any, All, sym, subst, ap, to_z, of_z, to_z-of_z, arith}
use Rattle.std.specs.Prelude.{vec_items}
use Rattle.std.specs.Int.{w128}
use Rattle.std.proofs.lemmas.List.{length-map}
use Rattle.number_parse.proofs.Hyphens.{fits_small}
use Rattle.input_text.specs.Input.{IsPairText}
use Rattle.input_text.specs.Pieces.{pieces}
use Rattle.input_text.proofs.Filling.{filled}
use Rattle.input_text.proofs.input.numbers_for.Goals as goal

pub returns-in_err-input-clause-none : goal.returns-in_err-input-clause-none
returns-in_err-input-clause-none c =
    let count : length c.items-place-end.result.now ≡ length c.args.names.now =
    sym (length-map c.items-place-end.result.now vec_items) ∙ ap length c.items-place-end.ensures in
    let test = c.loop-place-test.true in
    let end = c.loop-place.auto.place-end in
    let low : c.loop-place.place < length c.args.names.now = omega (arith, count, test, end) in
    rw c.from_residual.ensures (
      c.loop-place.place,
      low,
      subst (λ (name : List ℕ). All (λ piece. (number : ℤ) → ¬ IsPairText name number piece) (pieces 44 c.args.text.now)) c.name_at.ensures
          c.in_err-input.ensures.none,
    )

pub loop-place-preserved : goal.loop-place-preserved
loop-place-preserved c =
    let count : length c.items-place-end.result.now ≡ length c.args.names.now =
    sym (length-map c.items-place-end.result.now vec_items) ∙ ap length c.items-place-end.ensures in
    let test = c.loop-place-test.true in
    let end = c.loop-place.auto.place-end in
    let low : c.loop-place.place < length c.args.names.now = omega (arith, count, test, end) in
    let any = c.in_ok-input.ensures.given in
    let same : to_z w128 (of_z w128 c.in_ok-input.field-0) ≡ c.in_ok-input.field-0 = to_z-of_z (fits_small c.in_ok-input.field-0 any.4.small) in
    rw same (filled c.args.names.now (pieces 44 c.args.text.now) c.loop-place.place c.loop-place.input c.in_ok-input.field-0
    (let few = c.requires.few in omega (arith, low, few)) c.loop-place.invariant
    (subst (λ (name : List ℕ). Any (λ piece. IsPairText name c.in_ok-input.field-0 piece) (pieces 44 c.args.text.now)) c.name_at.ensures any))
