-- Lists of zeros, by a test and by places.
use Rattle.std.proofs.Common.{◌≡◌, ℕ, zero, suc, ◌+◌, ◌-◌, ◌≤◌, Bool, true, false, ◌&&◌, ℤ, pos, List, [], ◌∷◌, length, drop, sym, refl, ap, ◌∙◌, arith}
use Rattle.std.specs.Prelude.{◌↔◌}
use Rattle.std.specs.List.{list_all}
use Rattle.std.specs.Ordering.{int_eq}
use Rattle.std.proofs.lemmas.Bool.Decides.{Decides-int_eq}
use Rattle.std.proofs.lemmas.List.{get_or-drop}
use Rattle.linear_cons.specs.declared.affine.Affine.{Affine}
use Rattle.linear_cons.specs.Numbers.{number_at}
use Rattle.line_text.specs.Names.{IsOver}

both : (a b : Bool) → (a && b) ≡ true → (a ≡ true) × (b ≡ true)
both true true e = (refl, refl)
both true false e = cc
both false b e = cc

both_true : (a b : Bool) → a ≡ true → b ≡ true → (a && b) ≡ true
both_true a b p q = rw (p, q) refl

pub zeros_read : (xs : List ℤ) → list_all (λ z. int_eq z (pos 0)) xs ≡ true → (i : ℕ) → number_at xs i ≡ pos 0
zeros_read [] e i = refl
zeros_read (x ∷ xs) e zero = (Decides-int_eq x (pos 0)).0 (both (int_eq x (pos 0)) (list_all (λ z. int_eq z (pos 0)) xs) e).0
zeros_read (x ∷ xs) e (suc i) = zeros_read xs (both (int_eq x (pos 0)) (list_all (λ z. int_eq z (pos 0)) xs) e).1 i

pub zeros_tested : (xs : List ℤ) → ((i : ℕ) → number_at xs i ≡ pos 0) → list_all (λ z. int_eq z (pos 0)) xs ≡ true
zeros_tested [] all = refl
zeros_tested (x ∷ xs) all =
    both_true (int_eq x (pos 0)) (list_all (λ z. int_eq z (pos 0)) xs) ((Decides-int_eq x (pos 0)).1 (all 0))
    (zeros_tested xs (λ i. all (suc i)))

pub number_past : (xs : List ℤ) (n i : ℕ) → number_at (drop n xs) i ≡ number_at xs (n + i)
number_past xs n i = get_or-drop n xs i (pos 0)

-- the function is over the names exactly where the numbers past them are zeros
pub over_decided :
    (names : List (List ℕ)) (affine : Affine) (count : ℕ) (zeros : Bool) → count ≡ length names → count ≤ 16 → length affine.coef ≡ 16
    → zeros ≡ list_all (λ z. int_eq z (pos 0)) (drop count affine.coef) → (zeros ≡ true) ↔ IsOver names affine
over_decided names affine count zeros counted few long tested = (
  λ e. record {
    few = omega arith;
    places = long;
    past = λ place h.
        let there : count + (place - count) ≡ place = omega arith in
        ap (number_at affine.coef) (sym there) ∙ (sym (number_past affine.coef count (place - count))
        ∙ zeros_read (drop count affine.coef) (sym tested ∙ e) (place - count));
  },
  λ over. tested ∙ zeros_tested (drop count affine.coef) (λ i. number_past affine.coef count i ∙ over.past (count + i) (omega arith)),
)
