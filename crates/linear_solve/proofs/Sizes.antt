-- Sizes of numbers, of the products of a form, and what fits 128 bits for it.
use Rattle.std.proofs.Common.{◌≡◌, ◌≢◌, ℕ, zero, suc, ◌+◌, ◌*◌, ◌<◌, ◌≤◌, ◌^◌, ℤ, pos, negsuc, neg_ℤ, ◌+ℤ◌, ◌-ℤ◌, ◌*ℤ◌, ◌≤ℤ◌, ◌<ℤ◌, List, refl, sym, ap, ◌∙◌, arith, ⊎_elim, unsigned_abs}
use Rattle.std.proofs.lemmas.Int.{ints, unsigned_abs-mul, fits_signed_from_abs}
use Rattle.std.proofs.lemmas.Bool.{cases_lt}
use Rattle.std.proofs.Math.Nat.{le_trans, mul-le-mul_left, mul-le-mul_right}
use Rattle.std.specs.Int.{w128}
use Rattle.linear_cons.specs.declared.affine.Affine.{Affine}
use Rattle.linear_cons.specs.Functions.{IsQuotient, coefficient, form_at}
use Rattle.linear_cons.specs.LinearForm.{products_below}
use Rattle.linear_cons.specs.Numbers.{Fits128, number_at}
use Rattle.linear_cons.proofs.Ring.{mul_neg, mul_zero}
use Rattle.linear_solve.specs.Points.{FormFits}
use Rattle.linear_solve.specs.Systems.{weight_below}
use Rattle.linear_solve.proofs.Bounding.{form_is}

pub abs_add : (a b : ℤ) → unsigned_abs (a +ℤ b) ≤ unsigned_abs a + unsigned_abs b
abs_add a b = omega (arith, ints)

pub abs_opposite : (a : ℤ) → unsigned_abs (pos 0 -ℤ a) ≡ unsigned_abs a
abs_opposite a = omega (arith, ints)

-- a number far below 2^127 fits
pub small_fits : (z : ℤ) → unsigned_abs z ≤ 2 ^ 100 → Fits128 z
small_fits z small = fits_signed_from_abs w128 z (omega (arith, small))

pub mul_le_mul : (a b c d : ℕ) → a ≤ b → c ≤ d → a * c ≤ b * d
mul_le_mul a b c d le also = le_trans (mul-le-mul_right c le) (mul-le-mul_left b also)

pub abs_mul_le : (a b : ℤ) (m n : ℕ) → unsigned_abs a ≤ m → unsigned_abs b ≤ n → unsigned_abs (a *ℤ b) ≤ m * n
abs_mul_le a b m n le also = rw unsigned_abs-mul (mul_le_mul (unsigned_abs a) m (unsigned_abs b) n le also)

-- ---- quotients

-- a number is at most its product with a positive one
le_times : (g n : ℕ) → 0 < g → n ≤ g * n
le_times g n positive = let p : 1 * n ≤ g * n = mul-le-mul_right n positive in omega (arith, p)

pub quotient_size : (a q : Affine) → IsQuotient a q → (i : ℕ) → i < 16 → unsigned_abs (coefficient q i) ≤ unsigned_abs (coefficient a i)
quotient_size a q by i low = rw (by.coefficients i low, unsigned_abs-mul) (le_times by.divisor (unsigned_abs (coefficient q i)) by.positive)

floor_size : (g : ℕ) (z q : ℤ) → 0 < g → (pos g *ℤ q) ≤ℤ z → z <ℤ (pos g *ℤ (q +ℤ pos 1)) → unsigned_abs q ≤ unsigned_abs z
floor_size g z (pos n) positive low high =
    let p = le_times g n positive in
    let e : unsigned_abs (pos g *ℤ pos n) ≡ g * n = unsigned_abs-mul (pos g) (pos n) in
    let k : pos g *ℤ pos n ≡ pos (g * n) = refl in
    omega (arith, ints)
floor_size g z (negsuc n) positive low high =
    let p = le_times g n positive in
    let next : negsuc n +ℤ pos 1 ≡ neg_ℤ (pos n) = omega (arith, ints) in
    let e : pos g *ℤ (negsuc n +ℤ pos 1) ≡ neg_ℤ (pos (g * n)) = ap (λ t. pos g *ℤ t) next ∙ mul_neg (pos g) (pos n) in
    omega (arith, ints)

pub quotient_constant : (a q : Affine) → IsQuotient a q → unsigned_abs q.constant ≤ unsigned_abs a.constant
quotient_constant a q by = floor_size by.divisor a.constant q.constant by.positive by.at_most by.below_next

-- ---- weights

pub weight_each : (n : ℕ) (xs : List ℤ) (i : ℕ) → i < n → unsigned_abs (number_at xs i) ≤ weight_below n xs
unfolding weight_below
weight_each zero xs i low = absurd (omega arith)
weight_each (suc n) xs i low = ⊎_elim
    (λ (less : i < n). let p = weight_each n xs i less in omega (arith, p))
    (λ (from : n ≤ i). let e : i ≡ n = omega arith in rw e (omega arith))
    (cases_lt i n)

pub weight_mono : (n k : ℕ) (xs : List ℤ) → n ≤ k → weight_below n xs ≤ weight_below k xs
unfolding weight_below
weight_mono n zero xs le = let e : n ≡ 0 = omega arith in rw e (omega arith)
weight_mono n (suc k) xs le = ⊎_elim
    (λ (less : n < suc k). let p = weight_mono n k xs (omega arith) in omega (arith, p))
    (λ (from : suc k ≤ n). let e : n ≡ suc k = omega arith in rw e (omega arith))
    (cases_lt n (suc k))

pub weight_most : (n : ℕ) (xs : List ℤ) (m : ℕ) → ((i : ℕ) → i < n → unsigned_abs (number_at xs i) ≤ m) → weight_below n xs ≤ n * m
unfolding weight_below
weight_most zero xs m each = omega arith
weight_most (suc n) xs m each =
    let p = weight_most n xs m (λ i low. each i (omega arith)) in
    let h = each n (omega arith) in
    omega (arith, p, h)

pub weight_le : (n : ℕ) (xs ys : List ℤ) → ((i : ℕ) → i < n → unsigned_abs (number_at xs i) ≤ unsigned_abs (number_at ys i)) → weight_below n xs ≤ weight_below n ys
unfolding weight_below
weight_le zero xs ys each = omega arith
weight_le (suc n) xs ys each =
    let p = weight_le n xs ys (λ i low. each i (omega arith)) in
    let h = each n (omega arith) in
    omega (arith, p, h)

-- two places take part in the weight
pub weight_pair : (n : ℕ) (xs : List ℤ) (i j : ℕ) → i < n → j < n → i ≢ j → unsigned_abs (number_at xs i) + unsigned_abs (number_at xs j) ≤ weight_below n xs
unfolding weight_below
weight_pair zero xs i j low also apart = absurd (omega arith)
weight_pair (suc n) xs i j low also apart = ⊎_elim
    (λ (first : i < n). ⊎_elim
    (λ (second : j < n). let p = weight_pair n xs i j first second apart in omega (arith, p))
    (λ (last : n ≤ j). let e : j ≡ n = omega arith in let p = weight_each n xs i first in rw e (omega (arith, p)))
    (cases_lt j n))
    (λ (last : n ≤ i). let e : i ≡ n = omega arith in
    let earlier : j < n = ⊎_elim (λ (less : j < n). less) (λ (from : n ≤ j). absurd (apart (omega (arith, from, last)))) (cases_lt j n) in
    let p = weight_each n xs j earlier in
    rw e (omega (arith, p)))
    (cases_lt i n)

-- ---- forms

pub products_size : (n : ℕ) (coef num : List ℤ) (d : ℕ) → ((i : ℕ) → i < n → unsigned_abs (number_at num i) ≤ d) → unsigned_abs (products_below n coef num) ≤ weight_below n coef * d
unfolding products_below weight_below
products_size zero coef num d each = omega arith
products_size (suc n) coef num d each =
    let p = products_size n coef num d (λ i low. each i (omega arith)) in
    let h = abs_mul_le (number_at coef n) (number_at num n) (unsigned_abs (number_at coef n)) d (omega arith) (each n (omega arith)) in
    let s = abs_add (products_below n coef num) (number_at coef n *ℤ number_at num n) in
    omega (arith, p, h, s)

-- without the product at a place where the point has 0
pub products_size_without : (n place : ℕ) (coef num : List ℤ) (d : ℕ) → place < n → number_at num place ≡ pos 0 → ((i : ℕ) → i < n → unsigned_abs (number_at num i) ≤ d) → unsigned_abs (products_below n coef num) + unsigned_abs (number_at coef place) * d ≤ weight_below n coef * d
unfolding products_below weight_below
products_size_without zero place coef num d low none each = absurd (omega arith)
products_size_without (suc n) place coef num d low none each = ⊎_elim
    (λ (less : place < n).
    let p = products_size_without n place coef num d less none (λ i small. each i (omega arith)) in
    let h = abs_mul_le (number_at coef n) (number_at num n) (unsigned_abs (number_at coef n)) d (omega arith) (each n (omega arith)) in
    let s = abs_add (products_below n coef num) (number_at coef n *ℤ number_at num n) in
    omega (arith, p, h, s))
    (λ (from : n ≤ place).
    let e : place ≡ n = omega arith in
    let p = products_size n coef num d (λ i small. each i (omega arith)) in
    let z : number_at coef n *ℤ number_at num n ≡ pos 0 = ap (λ t. number_at coef n *ℤ t) (ap (λ t. number_at num t) (sym e) ∙ none) ∙ mul_zero (number_at coef n) in
    let s = abs_add (products_below n coef num) (number_at coef n *ℤ number_at num n) in
    rw e (let y : unsigned_abs (number_at coef n *ℤ number_at num n) ≡ 0 = ap unsigned_abs z in omega (arith, p, s, y)))
    (cases_lt place n)

-- a form of numbers of at most these sizes
pub form_size : (a : Affine) (num : List ℤ) (den : ℤ) (w d k : ℕ) → weight_below 16 a.coef ≤ w → ((i : ℕ) → i < 16 → unsigned_abs (number_at num i) ≤ d) → unsigned_abs (a.constant *ℤ den) ≤ k → unsigned_abs (form_at a num den) ≤ w * d + k
form_size a num den w d k weight each constant =
    let p = products_size 16 a.coef num d each in
    let q = mul-le-mul_right d weight in
    let s = abs_add (products_below 16 a.coef num) (a.constant *ℤ den) in
    rw form_is (omega (arith, p, q, s, constant))

pub form_fits : (a : Affine) (num : List ℤ) (den : ℤ) (w d k : ℕ) → weight_below 16 a.coef ≤ w → ((i : ℕ) → i < 16 → unsigned_abs (number_at num i) ≤ d) → unsigned_abs (a.constant *ℤ den) ≤ k → w * d + k ≤ 2 ^ 100 → FormFits a num den
form_fits a num den w d k weight each constant small = record {
  products = λ i low. small_fits _ (let p = abs_mul_le (coefficient a i) (number_at num i) w d (le_trans (weight_each 16 a.coef i low) weight) (each i low) in omega (arith, p, small));
  sums = λ n low. small_fits _ (let p = products_size n a.coef num d (λ i less. each i (omega arith)) in let q = mul-le-mul_right d (le_trans (weight_mono n 16 a.coef low) weight) in omega (arith, p, q, small));
  constants = small_fits _ (omega (arith, constant, small));
  whole = small_fits _ (let p = form_size a num den w d k weight each constant in omega (arith, p, small));
}
