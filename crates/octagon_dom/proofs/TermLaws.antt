-- One more place of a function's terms.
use Rattle.std.proofs.Common.{◌≡◌, ◌≢◌, ℕ, ◌+◌, ◌*◌, ◌/◌, ◌%◌, ◌<◌, ℤ, pos, negsuc, neg_ℤ, ◌*ℤ◌, List, arith, sym, ◌∙◌, ap, below_more}
use Rattle.std.proofs.lemmas.Int.{ints}
use Rattle.linear_cons.specs.declared.affine.Affine.{Affine}
use Rattle.linear_cons.specs.Functions.{coefficient}
use Rattle.linear_cons.specs.LinearForm.{products_below}
use Rattle.linear_cons.specs.Numbers.{number_at}
use Rattle.linear_cons.proofs.Forms.{products_zero}
use Rattle.linear_cons.proofs.Ring.{one_mul, zero_mul}
use Rattle.linear_cons.proofs.Sums.{products_more}
use Rattle.octagon_dom.specs.declared.terms.Terms.{Terms}
use Rattle.octagon_dom.specs.declared.terms.Terms.TheVariants.{Nothing, One, Two, Other}
use Rattle.octagon_dom.specs.Terms.{AreTermsBelow, AreTwoTerms, IsOneTerm, IsUnitTerm}
use Rattle.octagon_dom.specs.Laws.Members.{signed_even, signed_odd}

pub unit_up : (place : ℕ) → IsUnitTerm (pos 1) place (2 * place)
unit_up place = record {
  here = omega arith;
  value = λ store.
      let even : (2 * place) % 2 ≡ 0 = omega arith in
      let half : (2 * place) / 2 ≡ place = omega arith in
      one_mul (number_at store place) ∙ sym (signed_even store (2 * place) even ∙ ap (number_at store) half);
}

pub unit_down : (place : ℕ) → IsUnitTerm (negsuc 0) place (2 * place + 1)
unit_down place = record {
  here = omega arith;
  value = λ store.
      let odd : (2 * place + 1) % 2 ≡ 1 = omega arith in
      let half : (2 * place + 1) / 2 ≡ place = omega arith in
      let product : negsuc 0 *ℤ number_at store place ≡ neg_ℤ (number_at store place) = omega (arith, ints) in
      product ∙ sym (signed_odd store (2 * place + 1) odd ∙ ap (λ p. neg_ℤ (number_at store p)) half);
}

-- a coefficient of 0 adds no term
same_products : (n : ℕ) (a : Affine) (store : List ℤ) → coefficient a n ≡ pos 0
    → products_below (n + 1) a.coef store ≡ products_below n a.coef store
same_products n a store none =
    let nought : coefficient a n *ℤ number_at store n ≡ pos 0 = rw none (zero_mul (number_at store n)) in
    products_more n a.coef store ∙ (omega (arith, ints))

pub terms_zero : (n : ℕ) (a : Affine) (terms : Terms) → coefficient a n ≡ pos 0 → AreTermsBelow n a terms → AreTermsBelow (n + 1) a terms
terms_zero n a Nothing none before = below_more _ _ before none
terms_zero n a (One term) none before = record {
  inside = let h = before.inside in omega arith;
  mentioned = before.mentioned;
  sum = λ store. same_products n a store none ∙ before.sum store;
}
terms_zero n a (Two first second) none before = record {
  ordered = before.ordered;
  inside = let h = before.inside in omega arith;
  mentions_first = before.mentions_first;
  mentions_second = before.mentions_second;
  sum = λ store. same_products n a store none ∙ before.sum store;
}
terms_zero n a Other none before = before

pub terms_one : (n : ℕ) (a : Affine) (term : ℕ) → ((i : ℕ) → i < n → coefficient a i ≡ pos 0) → coefficient a n ≢ pos 0
    → IsUnitTerm (coefficient a n) n term → IsOneTerm (n + 1) a term
terms_one n a term before some unit = record {
  inside = let h = unit.here in omega arith;
  mentioned = rw unit.here some;
  sum = λ store.
      let nought = products_zero n a.coef store before in
      let more = products_more n a.coef store in
      let value = unit.value store in
      omega (arith, ints);
}

pub terms_two : (n : ℕ) (a : Affine) (first term : ℕ) → IsOneTerm n a first → coefficient a n ≢ pos 0
    → IsUnitTerm (coefficient a n) n term → AreTwoTerms (n + 1) a first term
terms_two n a first term before some unit = record {
  ordered = let h = before.inside in let g = unit.here in omega arith;
  inside = let h = unit.here in omega arith;
  mentions_first = before.mentioned;
  mentions_second = rw unit.here some;
  sum = λ store.
      let earlier = before.sum store in
      let more = products_more n a.coef store in
      let value = unit.value store in
      omega (arith, ints);
}
