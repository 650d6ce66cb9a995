-- A number that rows share whose linear parts are the same, or each other's negatives.
use Rattle.std.specs.Prelude.{ℕ, zero, suc, ◌+◌, ◌*◌, ◌%◌, ◌^◌, unsigned_abs}
use Rattle.linear_cons.specs.Functions.{coefficient}
use Rattle.linear_cons.specs.declared.affine.Affine.{Affine}

-- by the sizes of the coefficients before the place
abbrev pub mark_before : Affine → ℕ → ℕ
mark_before a zero = 0
mark_before a (suc n) = ((mark_before a n * 11400714819323198485) % 2 ^ 64 + unsigned_abs (coefficient a n) % 2 ^ 64) % 2 ^ 64

-- by those of all sixteen
unfoldable pub mark_of : Affine → ℕ
mark_of a = mark_before a 16
