-- The linear form of an affine function: one sum for stores and for rational points.
-- A point is sixteen numerators over one positive denominator; a store is a point with denominator 1.
use Rattle.std.specs.Prelude.{ℕ, zero, suc, ℤ, pos, ◌+ℤ◌, ◌*ℤ◌, List}
use Rattle.linear_cons.specs.Numbers.{number_at}

-- the products of coefficients and numbers at the places below n, summed from place 0 upward
unfoldable pub products_below : ℕ → List ℤ → List ℤ → ℤ
products_below zero coef num = pos 0
products_below (suc n) coef num = products_below n coef num +ℤ number_at coef n *ℤ number_at num n

-- the sum of coef[i] * num[i] over the sixteen places, plus constant * den:
-- the value of the function at the point num / den, times den
unfoldable pub linear_form : List ℤ → ℤ → List ℤ → ℤ → ℤ
linear_form coef constant num den = products_below 16 coef num +ℤ constant *ℤ den
