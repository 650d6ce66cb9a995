-- What is of 32 bits, and what isn't.
use Rattle.std.proofs.Common.{◌≡◌, ℤ, pos, negsuc, ◌≤ℤ◌, neg_ℤ, ◌∙◌, ap, subst, sym, refl, inl, arith}
use Rattle.std.proofs.lemmas.Int.{ints}
use Rattle.linear_cons.specs.Numbers.{number_at}
use Rattle.step_meaning.specs.declared.expression.Op2.TheVariants.{Add, And, Greater, Less}
use Rattle.step_meaning.specs.Syntax.{Division, divided, free, negative, number, pair, variable}
use Rattle.step_meaning.specs.Outcome.{Store, Truncates}
use Rattle.int_fit.specs.Fitting.{FitsInt, IsSmallNumber, IsSmallTest}
use Rattle.int_fit.specs.Narrowing.{greatest_int, least_int, narrowed_number}

between : (z : ℤ) → least_int ≤ℤ z → z ≤ℤ greatest_int → FitsInt z
between (pos n) low high = record { sfits = omega (arith, ints) }
between (negsuc n) low high = record { sfits = omega (arith, ints) }

too_great : FitsInt (pos 2147483648) → ⊥
too_great fits = let small = fits.sfits in omega arith

-- `2147483647 + 1` isn't
pub sum_is_too_great : (s : Store) → IsSmallNumber (pair Add (number (pos 2147483647)) (number (pos 1))) s → ⊥
sum_is_too_great s small = too_great (small.2 (pos 2147483648) (pos 2147483647, pos 1, refl, refl, refl))

-- `-2147483648` is: a literal is one number with its sign
pub least_is_small : (s : Store) → IsSmallNumber (negative (number (pos 2147483648))) s
least_is_small s = (inl (pos 2147483648, refl), λ v may. subst FitsInt (sym (may.2 ∙ ap neg_ℤ may.1)) (between least_int (omega (arith, ints)) (omega (arith, ints))))

-- `-2147483648 / -1` and `-2147483648 % -1` aren't: the one makes 2147483648, and the other is taken where the one is
pub least_by_minus_one : (division : Division) (s : Store) → IsSmallNumber (divided division (negative (number (pos 2147483648))) (negsuc 0)) s → ⊥
least_by_minus_one division s small =
    too_great (small.1 (pos 2147483648) (negsuc 2147483647, pos 2147483648, (pos 2147483648, refl, refl), exactly, refl))
  where
    exactly : Truncates (negsuc 2147483647) (negsuc 0) (pos 2147483648)
    exactly = record { small = omega (arith, ints); sign = (λ from. omega (arith, ints), λ to. omega (arith, ints)) }

-- `?` isn't, and narrowed it is
pub choice_is_too_great : (s : Store) → IsSmallNumber free s → ⊥
choice_is_too_great s small = too_great (small (pos 2147483648) tt)

pub narrowed_choice_is_small : (s : Store) → IsSmallNumber (narrowed_number free) s
narrowed_choice_is_small s = λ v may. between v may.0 may.1

-- `x < 2147483647 && x + 1 > 0` isn't where x is 2147483647, though the first side is false there: no operand is left out
pub both_sides_are_asked : (s : Store) → number_at s 0 ≡ pos 2147483647
    → IsSmallTest (pair And (pair Less (variable 0) (number (pos 2147483647))) (pair Greater (pair Add (variable 0) (number (pos 1))) (number (pos 0)))) s → ⊥
both_sides_are_asked s is small = too_great (small.1.0.2 (pos 2147483648) (pos 2147483647, pos 1, sym is, refl, refl))
