use Rattle.std.proofs.Common.{rules, ◌≡◌, ◌∙◌, inl, inr, unsigned_abs, Some, ℕ, List, ◌∷◌, sym, ap, subst, pos, neg_ℤ, ◌-ℤ◌, to_z, of_z, to_z-of_z, arith}
use Rattle.std.specs.Int.{w128}
use Rattle.std.proofs.lemmas.Option.{same_Some}
use Rattle.number_parse.specs.Signed.{IsNumberText}
use Rattle.number_parse.proofs.Hyphens.{abs_back, behind, fits_small, no_hyphen, nought_less, plain}
use Rattle.number_parse.proofs.signed.signed_of.Goals as goal

pub returns-in_default-number_of : goal.returns-in_default-number_of
returns-in_default-number_of c z =
    let first : c.in-Some.first.now ≡ 45 = c.if-first-eq45.true in
    let is : c.args.bytes.now ≡ c.in-Some.first.now ∷ c.in-Some.rest.now = search rules in
    let text : c.args.bytes.now ≡ 45 ∷ c.in-Some.rest.now = is ∙ ap (λ x. x ∷ c.in-Some.rest.now) first in (
      λ said. cc,
      λ both.
          let own = behind c.in-Some.rest.now z (subst (λ t. IsNumberText t z) text both.0) in
          let size : unsigned_abs z ≡ own.0 = ap unsigned_abs own.2 ∙ abs_back own.0 in
          absurd (c.in_default-number_of.not-Some own.0 ((c.number_of.ensures own.0).1 (own.1, omega (arith, size, both.1)))),
    )

pub returns-then-first-eq45 : goal.returns-then-first-eq45
returns-then-first-eq45 c z =
    let first : c.in-Some.first.now ≡ 45 = c.if-first-eq45.true in
    let is : c.args.bytes.now ≡ c.in-Some.first.now ∷ c.in-Some.rest.now = search rules in
    let text : c.args.bytes.now ≡ 45 ∷ c.in-Some.rest.now = is ∙ ap (λ x. x ∷ c.in-Some.rest.now) first in
    let read = (c.number_of.ensures c.in-Some-number_of.size).0 c.in-Some-number_of.is in
    let from : c.from.result ≡ pos c.in-Some-number_of.size = c.from.ensures in
    let inner : to_z w128 (of_z w128 c.from.result) ≡ pos c.in-Some-number_of.size =
    ap (λ x. to_z w128 (of_z w128 x)) from ∙ to_z-of_z (fits_small (pos c.in-Some-number_of.size) (omega (arith, read.1))) in
    let abs = abs_back c.in-Some-number_of.size in
    let value : to_z w128 (of_z w128 (pos 0 -ℤ to_z w128 (of_z w128 c.from.result))) ≡ neg_ℤ (pos c.in-Some-number_of.size) =
    ap (λ x. to_z w128 (of_z w128 x)) (ap (λ x. pos 0 -ℤ x) inner ∙ nought_less c.in-Some-number_of.size)
    ∙ to_z-of_z (fits_small (neg_ℤ (pos c.in-Some-number_of.size)) (omega (arith, read.1, abs))) in (
      λ said.
          let same : z ≡ neg_ℤ (pos c.in-Some-number_of.size) = sym (same_Some _ z said) ∙ value in
          let size : unsigned_abs z ≡ c.in-Some-number_of.size = ap unsigned_abs same ∙ abs in
          (inr (c.in-Some-number_of.size, text ∙ ap (λ t. 45 ∷ t) read.0, same), omega (arith, size, read.1)),
      λ both.
          let own = behind c.in-Some.rest.now z (subst (λ t. IsNumberText t z) text both.0) in
          let size : unsigned_abs z ≡ own.0 = ap unsigned_abs own.2 ∙ abs_back own.0 in
          let found : c.in-Some-number_of.size ≡ own.0 =
          same_Some _ own.0 (sym c.in-Some-number_of.is ∙ (c.number_of.ensures own.0).1 (own.1, omega (arith, size, both.1))) in
          ap Some (value ∙ ap (λ n. neg_ℤ (pos n)) found ∙ sym own.2),
    )

pub returns : goal.returns
returns c z =
    let read = (c.number_of-2.ensures c.in-Some-number_of-2.size).0 c.in-Some-number_of-2.is in
    let from : c.from-2.result ≡ pos c.in-Some-number_of-2.size = c.from-2.ensures in
    let value : to_z w128 (of_z w128 c.from-2.result) ≡ pos c.in-Some-number_of-2.size =
    ap (λ x. to_z w128 (of_z w128 x)) from ∙ to_z-of_z (fits_small (pos c.in-Some-number_of-2.size) (omega (arith, read.1))) in
    let none : (rest : List ℕ) → c.args.bytes.now ≡ 45 ∷ rest → ⊥ = λ rest text. no_hyphen c.in-Some-number_of-2.size rest (sym text ∙ read.0) in (
      λ said.
          let same : z ≡ pos c.in-Some-number_of-2.size = sym (same_Some _ z said) ∙ value in
          let size : unsigned_abs z ≡ c.in-Some-number_of-2.size = ap unsigned_abs same in
          (inl (c.in-Some-number_of-2.size, read.0, same), omega (arith, size, read.1)),
      λ both.
          let own = plain c.args.bytes.now z none both.0 in
          let size : unsigned_abs z ≡ own.0 = ap unsigned_abs own.2 in
          let found : c.in-Some-number_of-2.size ≡ own.0 =
          same_Some _ own.0 (sym c.in-Some-number_of-2.is ∙ (c.number_of-2.ensures own.0).1 (own.1, omega (arith, size, both.1))) in
          ap Some (value ∙ ap pos found ∙ sym own.2),
    )
