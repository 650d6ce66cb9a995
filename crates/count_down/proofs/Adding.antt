-- The values `x + c` and `x - c` are affine, and their numbers are small.
use Rattle.std.proofs.Common.{◌≡◌, ◌≢◌, ℕ, zero, suc, ◌*◌, ◌^◌, ◌<◌, ◌≤◌, ◌==◌, if◌then◌else◌, true, false, eqb, ℤ, pos, inl, inr, ⊎_elim, None, Option, Some, unsigned_abs, sym, subst, add-one, arith}
use Rattle.std.proofs.lemmas.Bool.Decides.{eqb_tells}
use Rattle.std.proofs.lemmas.Int.{fits_signed_from_abs, ints, unsigned_abs-mul}
use Rattle.std.proofs.Math.Nat.{mul-le-mul}
use Rattle.std.specs.Int.{w128}
use Rattle.linear_cons.specs.declared.affine.Affine.{Affine}
use Rattle.linear_cons.specs.declared.bounds.Bounds.{Bounds}
use Rattle.linear_cons.specs.Functions.{coefficient}
use Rattle.linear_cons.proofs.Places.{number_at_places}
use Rattle.linear_cons.proofs.Ring.{zero_mul}
use Rattle.linear_cons.specs.Ends.{exactly}
use Rattle.linear_forms.specs.Linearising.{linear_of}
use Rattle.linear_forms.proofs.Exactness.{linear_exact}
use Rattle.step_meaning.specs.declared.expression.Op2.{Op2}
use Rattle.step_meaning.specs.declared.expression.Op2.TheVariants.{Add, Sub}
use Rattle.step_meaning.specs.Syntax.{Expression, number, variable, pair}
use Rattle.step_meaning.specs.AffineExpressions.{ExpressionFits, IsAffine, coefficient_in, constant_in}
use Rattle.step_meaning.specs.Countdown.{IsShort, IsSmall, added, added_by, amount, change_by, form_of}
use Rattle.linear_cons.specs.Sizes.{sizes_below, total_size}
use Rattle.step_meaning.specs.Turns.{MayAssign}
use Rattle.linear_cons.proofs.Sizes.{sizes_more, sizes_none}
use Rattle.count_down.proofs.Moving.{short_form}

-- coefficients of at most 1 in size sum to at most their number
units_sum : (n : ℕ) (e : Affine) → ((i : ℕ) → i < n → unsigned_abs (coefficient e i) ≤ 1) → sizes_below n e ≤ n
units_sum zero e units = rw (sizes_none e) (omega arith)
units_sum (suc n) e units =
    rw (← add-one n) (rw (sizes_more n e)
    (let before = units_sum n e (λ i low. units i (omega arith)) in let last = units n (omega arith) in omega arith))

unit_size : (place x : ℕ) → unsigned_abs (if place == x then pos 1 else pos 0) ≤ 1
unit_size place x = ⊎_elim
    (λ (same : (eqb place x ≡ true) × (place ≡ x)). rw same.0 (omega arith))
    (λ (apart : (eqb place x ≡ false) × (place ≢ x)). rw apart.0 (omega arith))
    (eqb_tells place x)

-- `x + z` and `x - z`
abbrev IsKnown : Expression → Type 0
IsKnown v = IsAffine v × ExpressionFits v × (total_size (form_of v) ≤ 2 ^ 32)

small_known : (op : Op2) (x : ℕ) (z : ℤ) → ((place : ℕ) → unsigned_abs (coefficient_in (pair op (variable x) (number z)) place) ≤ 1)
    → unsigned_abs (constant_in (pair op (variable x) (number z))) ≤ 2 ^ 31 → IsAffine (pair op (variable x) (number z))
    → IsKnown (pair op (variable x) (number z))
small_known op x z units constant affine =
    let v : Expression = pair op (variable x) (number z) in
    let below : sizes_below 16 (form_of v) ≤ 16 =
    units_sum 16 (form_of v) (λ i low. rw (number_at_places (λ place. coefficient_in v place) i low) (units i)) in (
      affine,
      (
        tt,
        tt,
        record {
          coefficients = λ place low. let unit = units place in fits_signed_from_abs w128 (coefficient_in v place) (omega arith);
          constants = fits_signed_from_abs w128 (constant_in v) (omega arith);
        },
      ),
      (omega arith),
    )

known_by : (op : Op2) (x : ℕ) (z : ℤ) → IsShort (added_by op (Some z)) → IsKnown (pair op (variable x) (number z))
known_by Add x z short = small_known Add x z (λ place. let unit = unit_size place x in omega (arith, ints)) (omega (arith, ints)) (tt, tt, tt)
known_by Sub x z short = small_known Sub x z (λ place. let unit = unit_size place x in omega (arith, ints)) (omega (arith, ints)) (tt, tt, tt)
known_by other x z short = absurd short

short_known : (x : ℕ) (v : Expression) → IsShort (added x v) → IsKnown v
short_known x v short = let found = short_form x v short in subst IsKnown (sym found.2) (known_by found.0 x found.1 found.3)

pub short_exact : (bounds : Bounds) (x : ℕ) (v : Expression) → IsShort (added x v) → linear_of bounds v ≡ exactly (form_of v)
short_exact bounds x v short = let known = short_known x v short in linear_exact bounds v known.0 known.1

pub short_size : (x : ℕ) (v : Expression) → IsShort (added x v) → total_size (form_of v) ≤ 2 ^ 32
short_size x v short = let known = short_known x v short in known.2

-- ---- how large a change is

amount_small : (o : Option ℤ) → IsShort o → unsigned_abs (amount o) ≤ 2 ^ 31
amount_small None short = absurd short
amount_small (Some z) short = short

pub change_small : (e : Affine) (x : ℕ) (v : Expression) → IsSmall e → x < 16 → MayAssign e x v → unsigned_abs (change_by e x v) ≤ 2 ^ 62
change_small e x v small low (inl none) = rw (none, zero_mul) (omega arith)
change_small e x v small low (inr short) =
    let product : unsigned_abs (coefficient e x) * unsigned_abs (amount (added x v)) ≤ 2 ^ 31 * 2 ^ 31 = mul-le-mul (small.coefficients x low)
    (amount_small (added x v) short) in
    rw unsigned_abs-mul (omega arith)
