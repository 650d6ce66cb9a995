-- Countdown programs, and programs that are none, over the variable x at place 0.
use Rattle.std.proofs.Common.{◌≡◌, ◌≢◌, ℕ, zero, suc, ◌^◌, ◌<◌, ◌≤◌, ℤ, pos, negsuc, inl, inr, unsigned_abs, FitsSigned, arith}
use Rattle.std.specs.Int.{w128}
use Rattle.std.proofs.lemmas.Int.{fits_signed_from_abs, ints}
use Rattle.std.proofs.Math.Nat.{eq-one_of_dvd-one}
use Rattle.linear_cons.specs.declared.affine.Affine.{Affine}
use Rattle.linear_cons.specs.declared.row.Row.{Row}
use Rattle.linear_cons.specs.Divisor.{IsPrimitive}
use Rattle.linear_cons.specs.Functions.{coefficient}
use Rattle.linear_cons.proofs.KindLaws.{primitive_quotient}
use Rattle.linear_cons.proofs.Places.{eqb_apart, length-at_places, number_at_places}
use Rattle.step_meaning.specs.declared.expression.Op2.TheVariants.{Sub, Greater, NotEqual}
use Rattle.step_meaning.specs.Syntax.{Expression, number, variable, free, pair, Statement, Statements, assign, skip, return, if_else, while_loop, do_while, empty, sequence}
use Rattle.step_meaning.specs.AffineExpressions.{ComparisonFits, coefficient_in, less, strictly_less}
use Rattle.step_meaning.specs.Countdown.{CountsDown, IsCountdown, IsSmall, form_of}

abbrev x : Expression
x = variable 0

abbrev nought : Expression
nought = number (pos 0)

abbrev positive : Expression
positive = pair Greater x nought

abbrev down : Statement
down = assign 0 (pair Sub x (number (pos 1)))

abbrev only : Statement → Statements
only s = sequence s empty

-- `if (?) return; else ;`
no_loop : IsCountdown (only (if_else free (only return) (only skip)))
no_loop = inl (((tt, tt), (tt, tt)), tt)

-- ---- `while (x > 0) x = x - 1;`

small_fits : (z : ℤ) → unsigned_abs z ≤ 1 → FitsSigned w128 z
small_fits z small = fits_signed_from_abs w128 z (omega arith)

other : (place : ℕ) → suc place ≢ 0
other place = omega arith

positive_fits : ComparisonFits x nought
positive_fits = record {
  left = tt;
  right = tt;
  difference = record { coefficients = own; constants = small_fits _ (omega arith) };
  opposite = record { coefficients = opposite; constants = small_fits _ (omega arith) };
  strict_difference = record { coefficients = strict; constants = small_fits _ (omega arith) };
  strict_opposite = record { coefficients = strict_opposite; constants = small_fits _ (omega arith) };
}
  where
    own : (place : ℕ) → place < 16 → FitsSigned w128 (coefficient_in (less x nought) place)
    own zero low = small_fits (pos 1) (omega arith)
    own (suc place) low = rw (eqb_apart (suc place) 0 (other place)) (small_fits (pos 0) (omega arith))

    opposite : (place : ℕ) → place < 16 → FitsSigned w128 (coefficient_in (less nought x) place)
    opposite zero low = small_fits (negsuc 0) (omega arith)
    opposite (suc place) low = rw (eqb_apart (suc place) 0 (other place)) (small_fits (pos 0) (omega arith))

    strict : (place : ℕ) → place < 16 → FitsSigned w128 (coefficient_in (strictly_less x nought) place)
    strict zero low = small_fits (pos 1) (omega arith)
    strict (suc place) low = rw (eqb_apart (suc place) 0 (other place)) (small_fits (pos 0) (omega arith))

    strict_opposite : (place : ℕ) → place < 16 → FitsSigned w128 (coefficient_in (strictly_less nought x) place)
    strict_opposite zero low = small_fits (negsuc 0) (omega arith)
    strict_opposite (suc place) low = rw (eqb_apart (suc place) 0 (other place)) (small_fits (pos 0) (omega arith))

-- the function of x - 0 - 1
abbrev excess : Affine
excess = form_of (strictly_less x nought)

excess_at : (place : ℕ) → place < 16 → coefficient excess place ≡ coefficient_in (strictly_less x nought) place
excess_at place low = number_at_places (λ i. coefficient_in (strictly_less x nought) i) place low

excess_is_primitive : IsPrimitive excess.coef
excess_is_primitive d divides = eq-one_of_dvd-one (rw (excess_at 0 (omega arith)) at (divides 0 (omega arith)))

abbrev excess_row : Row
excess_row = record { affine = excess; primitive = excess_is_primitive }

excess_is_small : IsSmall excess
excess_is_small = record { coefficients = each; constants = omega arith }
  where
    each : (place : ℕ) → place < 16 → unsigned_abs (coefficient excess place) ≤ 2 ^ 31
    each zero low = rw (excess_at zero low) (omega arith)
    each (suc place) low = rw (excess_at (suc place) low, eqb_apart (suc place) 0 (other place)) (omega arith)

counts_down : CountsDown (only down) empty excess
counts_down = record {
  small = excess_is_small;
  in_body = (inr (omega arith), tt);
  in_step = tt;
  few_steps = omega arith;
  falls = rw (excess_at 0 (omega arith)) (omega (arith, ints));
}

while_counts_down : IsCountdown (only (while_loop positive (only down) empty))
while_counts_down =
    inr (excess_row, ((tt, tt, positive_fits, primitive_quotient excess (length-at_places _)), counts_down, tt))

-- ---- programs that are none

-- `while (x > 0) { x = x - 1; return; }`
no_return : ¬ IsCountdown (only (while_loop positive (sequence down (only return)) empty))
no_return (inl straight) = straight.0
no_return (inr counts) = counts.1.1.in_body.1.0

-- `while (x != 0) x = x - 1;`
no_inequality : ¬ IsCountdown (only (while_loop (pair NotEqual x nought) (only down) empty))
no_inequality (inl straight) = straight.0
no_inequality (inr counts) = counts.1.0.3

-- `do x = x - 1; while (x > 0);`
no_do : ¬ IsCountdown (only (do_while (only down) positive))
no_do (inl straight) = straight.0
no_do (inr counts) = counts.1

-- `while (x > 0) x = x - 1; while (x > 0) x = x - 1;`
no_second_loop : ¬ IsCountdown (sequence (while_loop positive (only down) empty) (only (while_loop positive (only down) empty)))
no_second_loop (inl straight) = straight.0
no_second_loop (inr counts) = counts.1.2.0

-- `while (x > 0) while (x > 0) x = x - 1;`
no_inner_loop : ¬ IsCountdown (only (while_loop positive (only (while_loop positive (only down) empty)) empty))
no_inner_loop (inl straight) = straight.0
no_inner_loop (inr counts) = counts.1.1.in_body.0

-- `;` before the loop
no_other_statement_before : ¬ IsCountdown (sequence skip (only (while_loop positive (only down) empty)))
no_other_statement_before (inl straight) = straight.1.0
no_other_statement_before (inr counts) = counts.1
