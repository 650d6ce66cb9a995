-- Two functions that can't both be at least 0, since a sum of them is a negative number.
use Rattle.std.specs.Prelude.{◌≡◌, ℕ, ◌<◌, ℤ, pos, negsuc, ◌+ℤ◌, ◌*ℤ◌, List, length, ⊤}
use Rattle.linear_cons.specs.declared.affine.Affine.{Affine}
use Rattle.linear_cons.specs.declared.row.RowKind.{RowKind}
use Rattle.linear_cons.specs.declared.row.RowKind.TheVariants.{Always, Never, Row as Kept}
use Rattle.linear_cons.specs.Functions.{value_at}
use Rattle.linear_cons.specs.Rows.{AreOpposed}

-- the values, each taken a positive number of times, sum to the same negative number at every store
pub record Cancel (a b : Affine) : Type 0 where
  pub times : ℕ
  pub others : ℕ
  pub some_times : 0 < times
  pub some_others : 0 < others
  pub lack : ℕ
  pub sum : (store : List ℤ) → length store ≡ 16 → pos times *ℤ value_at a store +ℤ pos others *ℤ value_at b store ≡ negsuc lack

-- one of the two is never met, or they are opposed
abbrev pub Clash : RowKind → RowKind → Type 0
Clash Never Always = ⊤
Clash Never Never = ⊤
Clash Never (Kept other) = ⊤
Clash Always Never = ⊤
Clash (Kept row) Never = ⊤
Clash (Kept row) (Kept other) = AreOpposed row other
Clash Always Always = ⊥
Clash Always (Kept other) = ⊥
Clash (Kept row) Always = ⊥
