-- Sizes of the functions in a candidate.
use Rattle.std.proofs.Common.{ℕ, ◌+◌, ◌*◌, ◌^◌, ◌≤◌, ℤ, pos, unsigned_abs, arith}
use Rattle.std.proofs.Math.Nat.{le_refl}
use Rattle.linear_cons.specs.declared.affine.Affine.{Affine}
use Rattle.linear_cons.specs.Functions.{NumbersFit, constant_of, multiple_of}
use Rattle.linear_cons.proofs.Sizes.{sizes_constant, sizes_fit, sizes_grown, sizes_multiple, sizes_sum}
use Rattle.linear_cons.specs.Sizes.{SizesAtMost}
use Rattle.step_meaning.specs.Countdown.{IsSmall}
use Rattle.count_down.specs.Trees.{bound, shifted}
use Rattle.count_down.specs.Building.{IsModest}

pub sizes_shifted : (m n : ℕ) (e : Affine) (z : ℤ) → SizesAtMost m e → unsigned_abs z ≤ n → SizesAtMost (m + n) (shifted e z)
sizes_shifted m n e z own small = sizes_sum m n e (constant_of z) own (sizes_constant z n small)

pub small_sizes : (e : Affine) → IsSmall e → SizesAtMost (2 ^ 31) e
small_sizes e small = record { coefficients = small.coefficients; constants = small.constants }

-- ---- bounds

pub next_fits : (e : Affine) → IsModest e → NumbersFit (shifted e (pos 1))
next_fits e modest = sizes_fit (2 ^ 91 + 1) (shifted e (pos 1)) (omega arith) (sizes_shifted (2 ^ 91) 1 e (pos 1) modest (omega arith))

turned : (e : Affine) (turn : ℕ) → turn ≤ 1024 → IsModest e → SizesAtMost ((2 ^ 91 + 1) * 1024) (multiple_of (shifted e (pos 1)) (pos turn))
turned e turn short modest = sizes_multiple (2 ^ 91 + 1) 1024 (shifted e (pos 1)) (pos turn) (sizes_shifted (2 ^ 91) 1 e (pos 1) modest (omega arith)) short

pub turns_fit : (e : Affine) (turn : ℕ) → turn ≤ 1024 → IsModest e → NumbersFit (multiple_of (shifted e (pos 1)) (pos turn))
turns_fit e turn short modest = sizes_fit ((2 ^ 91 + 1) * 1024) _ (omega arith) (turned e turn short modest)

pub bound_fits : (e : Affine) (turn : ℕ) (z : ℤ) → turn ≤ 1024 → IsModest e → unsigned_abs z ≤ 4096 → NumbersFit (shifted (multiple_of (shifted e (pos 1)) (pos turn)) z)
bound_fits e turn z short modest small =
    sizes_fit ((2 ^ 91 + 1) * 1024 + 4096) _ (omega arith)
    (sizes_shifted ((2 ^ 91 + 1) * 1024) 4096 (multiple_of (shifted e (pos 1)) (pos turn)) z (turned e turn short modest) small)

-- how large a bound's numbers are
pub bound_small : (n m s : ℕ) (e : Affine) (k : ℕ) → SizesAtMost n e → SizesAtMost ((n + 1) * m + (k + 1 + s)) (bound m s e k)
bound_small n m s e k own =
    sizes_shifted ((n + 1) * m) (k + 1 + s) (multiple_of (shifted e (pos 1)) (pos m)) (pos (k + 1 + s))
    (sizes_multiple (n + 1) m (shifted e (pos 1)) (pos m) (sizes_shifted n 1 e (pos 1) own (omega arith)) (le_refl m)) (le_refl (k + 1 + s))

-- ---- the function at a label inside

pub ahead_modest : (e : Affine) (most : ℕ) (z : ℤ) → IsSmall e → most ≤ 2048 → unsigned_abs z ≤ most * 2 ^ 62 → IsModest (shifted e z)
ahead_modest e most z small few moderate =
    sizes_grown (2 ^ 31 + 2048 * 2 ^ 62) (2 ^ 91) (shifted e z) (omega arith)
    (sizes_shifted (2 ^ 31) (2048 * 2 ^ 62) e z (small_sizes e small) (omega arith))

pub modest_fits : (e : Affine) → IsModest e → NumbersFit e
modest_fits e modest = sizes_fit (2 ^ 91) e (omega arith) modest
