-- How large the numbers of a function are.
use Rattle.std.specs.Prelude.{ℕ, zero, suc, ◌+◌, ◌<◌, ◌≤◌, unsigned_abs}
use Rattle.linear_cons.specs.declared.affine.Affine.{Affine}
use Rattle.linear_cons.specs.Functions.{coefficient}

-- every number of the function is at most m in size
pub record SizesAtMost (m : ℕ) (a : Affine) : Type 0 where
  pub coefficients : (i : ℕ) → i < 16 → unsigned_abs (coefficient a i) ≤ m
  pub constants : unsigned_abs a.constant ≤ m

-- the sizes of the coefficients at the places below n, summed
unfoldable pub sizes_below : ℕ → Affine → ℕ
sizes_below zero e = 0
sizes_below (suc n) e = sizes_below n e + unsigned_abs (coefficient e n)

-- the sum of the sizes of the coefficients and the constant
abbrev pub total_size : Affine → ℕ
total_size e = sizes_below 16 e + unsigned_abs e.constant
