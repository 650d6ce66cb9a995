-- Lists that are filled place by place, and the sixteen numbers of a function of the place.
use Rattle.std.proofs.Common.{◌≡◌, ◌≢◌, true, false, cond, eqb, replicate, ⊎_elim, ap, ℕ, ◌+◌, ◌<◌, ◌≤◌, ℤ, pos, List, length, set, sym, refl, ◌∙◌, arith, get_or-set_other, get_or-set_same, below_more, length-set}
use Rattle.std.proofs.lemmas.Bool.{cases_lt}
use Rattle.std.proofs.lemmas.Bool.Decides.{eqb_tells}
use Rattle.std.proofs.lemmas.List.{length-replicate, get_or-replicate, get_or_past, set_past}
use Rattle.std.proofs.lemmas.List.FromFn.{fill_by_all}
use Rattle.linear_cons.specs.Numbers.{Fits128, number_at, at_places}
pub use Rattle.linear_cons.specs.Laws.Primitive.{number_at_places, length-at_places}

-- a list of sixteen is the numbers that it has at its places
pub places_of : (xs : List ℤ) (f : ℕ → ℤ) → length xs ≡ 16 → ((i : ℕ) → i < 16 → number_at xs i ≡ f i) → xs ≡ at_places f
unfolding at_places
places_of xs f long same = fill_by_all f xs 16 (pos 0) long same

-- two lists of sixteen with the same numbers are one
pub places-ext : (xs ys : List ℤ) → length xs ≡ 16 → length ys ≡ 16 → ((i : ℕ) → i < 16 → number_at xs i ≡ number_at ys i) → xs ≡ ys
places-ext xs ys p q same =
    places_of xs (number_at ys) p same ∙ sym (places_of ys (number_at ys) q (λ i h. refl))

-- the places below n have the numbers of f, which fit 128 bits
pub record FilledBelow (f : ℕ → ℤ) (n : ℕ) (xs : List ℤ) : Type 0 where
  pub long : length xs ≡ 16
  pub numbers : (i : ℕ) → i < n → number_at xs i ≡ f i
  pub fit : (i : ℕ) → i < n → Fits128 (f i)

pub filled_none : (f : ℕ → ℤ) (xs : List ℤ) → length xs ≡ 16 → FilledBelow f 0 xs
filled_none f xs long = record { long = long; numbers = λ i h. absurd (omega arith); fit = λ i h. absurd (omega arith) }

pub filled_more : (f : ℕ → ℤ) (n : ℕ) (xs : List ℤ) (z : ℤ) → n < 16 → FilledBelow f n xs → z ≡ f n → Fits128 (f n) → FilledBelow f (n + 1) (set xs n z)
filled_more f n xs z low filled is fits = record {
  long = length-set xs n z ∙ filled.long;
  numbers = below_more _ _
      (λ i h. let ne : i ≢ n = omega arith in rw get_or-set_other (filled.numbers i h))
      (let lt : n < length xs = omega (arith, filled.long) in rw get_or-set_same is);
  fit = below_more _ _ filled.fit fits;
}

pub filled_all : (f : ℕ → ℤ) (xs : List ℤ) → FilledBelow f 16 xs → xs ≡ at_places f
filled_all f xs filled = places_of xs f filled.long filled.numbers

-- the numbers of a function fit at each place exactly where the function of the place does
pub fit_places : (f : ℕ → ℤ) → ((i : ℕ) → i < 16 → Fits128 (f i)) → (i : ℕ) → i < 16 → Fits128 (number_at (at_places f) i)
fit_places f fit i h = rw number_at_places (fit i h)

pub places_fit : (f : ℕ → ℤ) → ((i : ℕ) → i < 16 → Fits128 (number_at (at_places f) i)) → (i : ℕ) → i < 16 → Fits128 (f i)
places_fit f fit i h = rw number_at_places at (fit i h)

pub eqb_apart : (i place : ℕ) → i ≢ place → eqb i place ≡ false
eqb_apart i place apart = ⊎_elim (λ (same : (eqb i place ≡ true) × (i ≡ place)). absurd (apart same.1)) (λ (other : (eqb i place ≡ false) × (i ≢ place)). other.0) (eqb_tells i place)

-- one number set in a list, place by place
pub number_at-set : (xs : List ℤ) (place i : ℕ) (z : ℤ) → place < length xs → number_at (set xs place z) i ≡ cond (eqb i place) z (number_at xs i)
number_at-set xs place i z low = ⊎_elim
    (λ (same : (eqb i place ≡ true) × (i ≡ place)). rw (same.0, same.1) (rw get_or-set_same refl))
    (λ (apart : (eqb i place ≡ false) × (i ≢ place)). let ne = apart.1 in rw apart.0 (rw get_or-set_other refl))
    (eqb_tells i place)

-- sixteen zeros with a one at the place
pub unit_at : (zeros : List ℤ) (place : ℕ) → zeros ≡ replicate 16 (pos 0) → place < 16 → set zeros place (pos 1) ≡ at_places (λ i. cond (eqb i place) (pos 1) (pos 0))
unit_at zeros place are low =
    let long : length zeros ≡ 16 = ap length are ∙ length-replicate 16 (pos 0) in
    let inside : place < length zeros = omega arith in
    let nought : (i : ℕ) → i < 16 → number_at zeros i ≡ pos 0 = λ i h. ap (λ t. number_at t i) are ∙ get_or-replicate 16 i (pos 0) (pos 0) h in
    places_of _ _ (length-set zeros place (pos 1) ∙ long)
    (λ i h. number_at-set zeros place i (pos 1) inside ∙ ap (λ t. cond (eqb i place) (pos 1) t) (nought i h))

-- a place that is cleared is 0, also past the end
pub number_at-clear : (xs : List ℤ) (place i : ℕ) → number_at (set xs place (pos 0)) i ≡ cond (eqb i place) (pos 0) (number_at xs i)
number_at-clear xs place i = ⊎_elim
    (λ (low : place < length xs). number_at-set xs place i (pos 0) low)
    (λ (past : length xs ≤ place). rw (set_past xs place (pos 0) past) (⊎_elim
    (λ (same : (eqb i place ≡ true) × (i ≡ place)). rw (same.0, same.1) (get_or_past xs place (pos 0) past))
    (λ (apart : (eqb i place ≡ false) × (i ≢ place)). rw apart.0 refl)
    (eqb_tells i place)))
    (cases_lt place (length xs))
