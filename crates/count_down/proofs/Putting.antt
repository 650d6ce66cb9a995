-- Rows are moved back over an assignment within 128 bits where the sizes allow it.
use Rattle.std.proofs.Common.{◌≡◌, ℕ, pos, ◌+◌, ◌*◌, ◌^◌, ◌<◌, ◌≤◌, Some, arith}
use Rattle.std.proofs.Math.Nat.{le_refl, mul-le-mul, mul_assoc, mul_comm, suc-mul}
use Rattle.linear_cons.specs.declared.affine.Affine.{Affine}
use Rattle.linear_cons.specs.declared.row.RowKind.{RowKind}
use Rattle.linear_cons.specs.declared.row.RowKind.TheVariants.{Always, Never, Row as Kept}
use Rattle.linear_cons.specs.Functions.{constant_of, complement_of, substituted}
use Rattle.linear_cons.specs.Rows.{IsRowOf, row_kind_of}
use Rattle.linear_cons.proofs.KindLaws.{row_kind_is}
use Rattle.count_down.specs.Building.{IsModest}
use Rattle.count_down.specs.Trees.{bound}
use Rattle.count_down.proofs.Modest.{bound_small}
use Rattle.linear_cons.proofs.Sizes.{sizes_constant, sizes_grown, sizes_fit, sizes_quotient, sizes_complement, sizes_substituted, substitution_fits}
use Rattle.linear_cons.specs.Sizes.{SizesAtMost, total_size}
use Rattle.count_down.proofs.Fitting.{bound_sizes, claim_fits, most_size, steps_sizes}
use Rattle.count_down.proofs.Stepping.{RowsFit, StepFits}

module _ (x : ℕ) (low : x < 16) (v : Affine) where
  pub rows_put : (n : ℕ) (f : Affine) (kind : RowKind) → IsRowOf f kind → SizesAtMost n f → (1 + n) + total_size v * (1 + n) < 2 ^ 127
      → RowsFit (Some (x, v)) low kind
  rows_put n f Always is own small = tt
  rows_put n f Never is own small = tt
  rows_put n f (Kept row) is own small =
      let sizes = sizes_quotient n f row.affine is own in
      let turned = sizes_complement n row.affine sizes in
      let less : total_size v * n ≤ total_size v * (1 + n) = mul-le-mul (le_refl (total_size v)) (omega arith) in (
        (sizes_fit n row.affine (omega arith) sizes, substitution_fits x low v n row.affine sizes (omega arith)),
        (sizes_fit (1 + n) (complement_of row.affine) (omega arith) turned, substitution_fits x low v (1 + n) (complement_of row.affine) turned small),
      )

  -- over the assignment the numbers of a step fit
  pub put_fits : (m s : ℕ) (e : Affine) (k : ℕ) (f : Affine) (j n : ℕ) → m ≤ 1024 → k + 1 + s ≤ 4096 → j + 1 + s ≤ 4096 → IsModest e
      → SizesAtMost n f → n + total_size v * n ≤ 2 ^ 107 → total_size v ≤ 2 ^ 60 → StepFits (Some (x, v)) m s e k f j
  put_fits m s e k f j n short few fewer own other limit small =
      let t : ℕ = total_size v in
      let own_size : ℕ = (n + 1) * 1024 + 4096 in
      let here = bound_sizes m s e k short few own in
      let spread : t * own_size ≡ t * n * 1024 + t * 5120 = omega (arith, mul_assoc t n 1024) in
      let turns : (n + 1) * m ≤ (n + 1) * 1024 = mul-le-mul (le_refl (n + 1)) short in
      let turned : t * (1 + n) ≡ (1 + n) * t = mul_comm t (1 + n) in
      let wide : (1 + n) * t ≡ t + n * t = omega (arith, suc-mul n t) in
      let same : n * t ≡ t * n = mul_comm n t in
      let there : SizesAtMost own_size (bound m s f j) =
      sizes_grown ((n + 1) * m + (j + 1 + s)) own_size (bound m s f j) (omega arith) (bound_small n m s f j other) in
      let last : SizesAtMost 4096 (constant_of (pos (j + 1 + s))) = sizes_constant (pos (j + 1 + s)) 4096 (omega arith) in
      let moved : (r : ℕ) (a : Affine) → SizesAtMost r a → r + t * r ≤ most_size * 2 ^ 20 → SizesAtMost (most_size * 2 ^ 20) (substituted a x v) =
      λ r a sizes le. sizes_grown (r + t * r) (most_size * 2 ^ 20) (substituted a x v) le (sizes_substituted r a x v low sizes) in
      record {
        place = low;
        rows = rows_put n f (row_kind_of f) (row_kind_is f) other (omega arith);
        bounds = claim_fits (Some (x, v)) (bound m s f j) (bound m s e k) (substitution_fits x low v own_size (bound m s f j) there (omega arith))
            (moved own_size (bound m s f j) there (omega arith)) here;
        last = claim_fits (Some (x, v)) (constant_of (pos (j + 1 + s))) (bound m s e k) (substitution_fits x low v 4096 _ last (omega arith))
            (moved 4096 _ last (omega arith)) here;
        lasts = claim_fits (Some (x, v)) (constant_of (pos (j + 1 + s))) (constant_of (pos (k + 1 + s))) (substitution_fits x low v 4096 _ last (omega arith))
            (moved 4096 _ last (omega arith)) (steps_sizes (k + 1 + s) few);
      }
