-- Each demo program counts x down.
use Rattle.std.proofs.Common.{◌≡◌, ◌≢◌, ◌∙◌, ℕ, zero, suc, ◌+◌, ◌*◌, ◌^◌, ◌<◌, ◌≤◌, ℤ, pos, negsuc, ◌*ℤ◌, inl, inr, unsigned_abs, FitsSigned, refl, ap, arith}
use Rattle.std.specs.Int.{w128}
use Rattle.std.proofs.lemmas.Int.{fits_signed_from_abs, ints}
use Rattle.std.proofs.Math.Nat.{eq-one_of_dvd-one}
use Rattle.linear_cons.specs.declared.affine.Affine.{Affine}
use Rattle.linear_cons.specs.declared.row.Row.{Row}
use Rattle.linear_cons.specs.Divisor.{IsPrimitive}
use Rattle.linear_cons.specs.Functions.{coefficient}
use Rattle.linear_cons.proofs.KindLaws.{primitive_quotient}
use Rattle.linear_cons.proofs.Places.{eqb_apart, length-at_places, number_at_places}
use Rattle.step_meaning.specs.declared.expression.Op2.TheVariants.{Add}
use Rattle.step_meaning.specs.Syntax.{Expression, empty, number, pair, variable}
use Rattle.step_meaning.specs.AffineExpressions.{ComparisonFits, coefficient_in, less, strictly_less}
use Rattle.step_meaning.specs.Counts.{before, none}
use Rattle.step_meaning.specs.Countdown.{AreCounting, CountsDown, IsCountdown, IsSmall, change_by, form_of}
use Rattle.demo_program.specs.Demo.{demo_body, turn_from}

abbrev x : Expression
x = variable 1

abbrev nought : Expression
nought = number (pos 0)

small_fits : (z : ℤ) → unsigned_abs z ≤ 1 → FitsSigned w128 z
small_fits z small = fits_signed_from_abs w128 z (omega arith)

past : (place : ℕ) → suc (suc place) ≢ 1
past place = omega arith

positive_fits : ComparisonFits x nought
positive_fits = record {
  left = tt;
  right = tt;
  difference = record { coefficients = own; constants = small_fits _ (omega arith) };
  opposite = record { coefficients = opposite; constants = small_fits _ (omega arith) };
  strict_difference = record { coefficients = strict; constants = small_fits _ (omega arith) };
  strict_opposite = record { coefficients = strict_opposite; constants = small_fits _ (omega arith) };
}
  where
    own : (place : ℕ) → place < 16 → FitsSigned w128 (coefficient_in (less x nought) place)
    own zero low = small_fits (pos 0) (omega arith)
    own (suc zero) low = small_fits (pos 1) (omega arith)
    own (suc (suc place)) low = rw (eqb_apart (suc (suc place)) 1 (past place)) (small_fits (pos 0) (omega arith))

    opposite : (place : ℕ) → place < 16 → FitsSigned w128 (coefficient_in (less nought x) place)
    opposite zero low = small_fits (pos 0) (omega arith)
    opposite (suc zero) low = small_fits (negsuc 0) (omega arith)
    opposite (suc (suc place)) low = rw (eqb_apart (suc (suc place)) 1 (past place)) (small_fits (pos 0) (omega arith))

    strict : (place : ℕ) → place < 16 → FitsSigned w128 (coefficient_in (strictly_less x nought) place)
    strict zero low = small_fits (pos 0) (omega arith)
    strict (suc zero) low = small_fits (pos 1) (omega arith)
    strict (suc (suc place)) low = rw (eqb_apart (suc (suc place)) 1 (past place)) (small_fits (pos 0) (omega arith))

    strict_opposite : (place : ℕ) → place < 16 → FitsSigned w128 (coefficient_in (strictly_less nought x) place)
    strict_opposite zero low = small_fits (pos 0) (omega arith)
    strict_opposite (suc zero) low = small_fits (negsuc 0) (omega arith)
    strict_opposite (suc (suc place)) low = rw (eqb_apart (suc (suc place)) 1 (past place)) (small_fits (pos 0) (omega arith))

-- the function of x - 0 - 1
abbrev excess : Affine
excess = form_of (strictly_less x nought)

excess_at : (place : ℕ) → place < 16 → coefficient excess place ≡ coefficient_in (strictly_less x nought) place
excess_at place low = number_at_places (λ i. coefficient_in (strictly_less x nought) i) place low

excess_is_primitive : IsPrimitive excess.coef
excess_is_primitive d divides = eq-one_of_dvd-one (rw (excess_at 1 (omega arith)) at (divides 1 (omega arith)))

abbrev excess_row : Row
excess_row = record { affine = excess; primitive = excess_is_primitive }

excess_is_small : IsSmall excess
excess_is_small = record { coefficients = each; constants = omega arith }
  where
    each : (place : ℕ) → place < 16 → unsigned_abs (coefficient excess place) ≤ 2 ^ 31
    each zero low = rw (excess_at zero low) (omega arith)
    each (suc zero) low = rw (excess_at (suc zero) low) (omega arith)
    each (suc (suc place)) low = rw (excess_at (suc (suc place)) low, eqb_apart (suc (suc place)) 1 (past place)) (omega arith)

-- ---- a turn

counting : (left first : ℕ) → AreCounting excess (turn_from left first)
counting zero first = (inr (omega arith), tt)
counting (suc left) first = (inl (excess_at 0 (omega arith)), counting left (suc first))

steps : (left first : ℕ) → (before (change_by excess) (turn_from left first) none).most ≡ left + 1
steps zero first = refl
steps (suc left) first = let rest = steps left (suc first) in omega arith

adds_nothing : (first : ℕ) → change_by excess 0 (pair Add (variable 0) (number (pos first))) ≡ pos 0
adds_nothing first = ap (λ c. c *ℤ pos first) (excess_at 0 (omega arith)) ∙ (let none : 0 * first ≡ 0 = omega arith in ap pos none)

falls : (left first : ℕ) → (before (change_by excess) (turn_from left first) none).change ≡ negsuc 0
falls zero first = rw (excess_at 1 (omega arith)) refl
falls (suc left) first = rw (adds_nothing first, falls left (suc first)) refl

counts_down : (n : ℕ) → n ≤ 1000 → CountsDown (turn_from n 1) empty excess
counts_down n few = record {
  small = excess_is_small;
  in_body = counting n 1;
  in_step = tt;
  few_steps = let s = steps n 1 in omega arith;
  falls = rw (falls n 1) (omega (arith, ints));
}

pub demo_counts_down : (n : ℕ) → n ≤ 1000 → IsCountdown (demo_body n)
demo_counts_down n few = inr (excess_row, ((tt, tt, positive_fits, primitive_quotient excess (length-at_places _)), counts_down n few, tt))
