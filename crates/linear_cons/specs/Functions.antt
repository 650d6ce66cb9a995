-- Affine functions with unbounded numbers: their values, and the exact sum, difference, multiple and substitution.
use Rattle.std.specs.Prelude.{◌≡◌, ◌≢◌, ℕ, ◌<◌, ◌≤◌, ◌==◌, ℤ, pos, negsuc, neg_ℤ, ◌+ℤ◌, ◌-ℤ◌, ◌*ℤ◌, ◌≤ℤ◌, ◌<ℤ◌, List, length, slice_set}
use Rattle.std.specs.Prelude.{if◌then◌else◌}
use Rattle.linear_cons.specs.declared.affine.Affine.{Affine}
use Rattle.linear_cons.specs.declared.exact.Op.{Op}
use Rattle.linear_cons.specs.Exact.{exact_result}
use Rattle.linear_cons.specs.Numbers.{Fits128, at_places, floor_by, number_at}
use Rattle.linear_cons.specs.LinearForm.{products_below, linear_form}

-- the coefficient of the variable at a place
abbrev pub coefficient : Affine → ℕ → ℤ
coefficient a i = number_at a.coef i

-- the value at the point num / den, times den
abbrev pub form_at : Affine → List ℤ → ℤ → ℤ
form_at a num den = linear_form a.coef a.constant num den

-- the exact value at a store, which is a point with denominator 1
abbrev pub value_at : Affine → List ℤ → ℤ
value_at a store = form_at a store (pos 1)

-- the function that is the number everywhere
abbrev pub constant_of : ℤ → Affine
constant_of c = record { coef = at_places (λ i. pos 0); constant = c }

-- the first less the second, place by place
abbrev pub difference_of : Affine → Affine → Affine
difference_of a b = record { coef = at_places (λ i. coefficient a i -ℤ coefficient b i); constant = a.constant -ℤ b.constant }

-- every number of the function fits 128 bits
pub record NumbersFit (a : Affine) : Type 0 where
  pub coefficients : (i : ℕ) → i < 16 → Fits128 (coefficient a i)
  pub constants : Fits128 a.constant

-- the function divided by a positive number, each of its numbers rounded down
abbrev pub quotient_by : ℕ → Affine → Affine
quotient_by g a = record { coef = at_places (λ i. floor_by g (coefficient a i)); constant = floor_by g a.constant }

-- `-e - 1`, which is at least 0 at exactly the stores where `e` is not
abbrev pub complement_of : Affine → Affine
complement_of e = difference_of (constant_of (negsuc 0)) e

-- What follows has no part in the headline.

-- the function whose value is the number at the place
abbrev pub variable_at : ℕ → Affine
variable_at place = record { coef = at_places (λ i. if i == place then pos 1 else pos 0); constant = pos 0 }

-- the sum, place by place
abbrev pub sum_of : Affine → Affine → Affine
sum_of a b = record { coef = at_places (λ i. coefficient a i +ℤ coefficient b i); constant = a.constant +ℤ b.constant }

-- the operation on the two numbers at each place
abbrev pub combined : Op → Affine → Affine → Affine
combined op a b =
    record { coef = at_places (λ i. exact_result op (coefficient a i) (coefficient b i)); constant = exact_result op a.constant b.constant }

-- each number times the factor
abbrev pub multiple_of : Affine → ℤ → Affine
multiple_of a by = record { coef = at_places (λ i. coefficient a i *ℤ by); constant = a.constant *ℤ by }

-- the sum of the two functions, each times its factor
abbrev pub mixed_of : Affine → ℤ → Affine → ℤ → Affine
mixed_of a by b times = sum_of (multiple_of a by) (multiple_of b times)

-- the function without its product at the place
abbrev pub without : Affine → ℕ → Affine
without a place = record { coef = slice_set a.coef place (pos 0); constant = a.constant }

-- the products that a substitution adds up: the function put in, times the place's coefficient
abbrev pub products_added : Affine → ℕ → Affine → Affine
products_added a place by = multiple_of by (coefficient a place)

-- the function with another put in for the variable at the place
abbrev pub substituted : Affine → ℕ → Affine → Affine
substituted a place by = sum_of (without a place) (products_added a place by)

-- both products of two numbers with their factors, and the sum of the two, fit 128 bits
pub record ProductsFit (left by right times : ℤ) : Type 0 where
  pub first : Fits128 (left *ℤ by)
  pub second : Fits128 (right *ℤ times)
  pub together : Fits128 (left *ℤ by +ℤ right *ℤ times)

-- no number of a sum of multiples is outside 128 bits: neither a product that it adds up nor one of the result
pub record MixedFits (a : Affine) (by : ℤ) (b : Affine) (times : ℤ) : Type 0 where
  pub first : NumbersFit (multiple_of a by)
  pub second : NumbersFit (multiple_of b times)
  pub sums : NumbersFit (mixed_of a by b times)

-- no number of a substitution is outside 128 bits: neither a product that it adds up nor one of the result
pub record SubstitutionFits (a : Affine) (place : ℕ) (by : Affine) : Type 0 where
  pub products : NumbersFit (products_added a place by)
  pub sums : NumbersFit (substituted a place by)

-- each product, each sum of the products up to a place, and the sum of all with the constant fits 128 bits
pub record PartsFit (a : Affine) (store : List ℤ) : Type 0 where
  pub products : (i : ℕ) → i < 16 → Fits128 (coefficient a i *ℤ number_at store i)
  pub sums : (n : ℕ) → n ≤ 16 → Fits128 (products_below n a.coef store)
  pub whole : Fits128 (value_at a store)

-- no variable occurs: all coefficients are 0
abbrev pub IsConstant : Affine → Type 0
IsConstant a = (i : ℕ) → i < 16 → coefficient a i ≡ pos 0

-- the variable at the place occurs
abbrev pub Mentions : ℕ → Affine → Type 0
Mentions place a = coefficient a place ≢ pos 0

-- no variable but the one at the place occurs
abbrev pub MentionsOnly : ℕ → Affine → Type 0
MentionsOnly place a = (i : ℕ) → i < 16 → i ≢ place → coefficient a i ≡ pos 0

-- the function has sixteen coefficients, and no variable at the place `vars` or past it occurs
pub record IsOver (vars : ℕ) (a : Affine) : Type 0 where
  pub places : length a.coef ≡ 16
  pub past : (place : ℕ) → vars ≤ place → coefficient a place ≡ pos 0

-- the second function is the first divided by a positive number, its constant rounded down
pub record IsQuotient (a quotient : Affine) : Type 0 where
  pub divisor : ℕ
  pub positive : 0 < divisor
  pub places : length quotient.coef ≡ 16
  pub coefficients : (i : ℕ) → i < 16 → coefficient a i ≡ pos divisor *ℤ coefficient quotient i
  pub at_most : (pos divisor *ℤ quotient.constant) ≤ℤ a.constant
  pub below_next : a.constant <ℤ (pos divisor *ℤ (quotient.constant +ℤ pos 1))

-- each coefficient of the one is the negative of the other's
abbrev pub HasNegatives : Affine → Affine → Type 0
HasNegatives a b = (i : ℕ) → i < 16 → coefficient b i ≡ neg_ℤ (coefficient a i)
