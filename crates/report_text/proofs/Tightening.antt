-- The tightest rows of a path, and the stores that meet them.
use Rattle.std.proofs.Common.{◌↔◌, ℤ, pos, ◌≤ℤ◌, ◌<ℤ◌, List, arith, Contains}
use Rattle.std.proofs.lemmas.Int.{ints}
use Rattle.std.proofs.lemmas.List.Elements.{All-contains, All-weaker}
use Rattle.linear_cons.specs.declared.affine.Affine.{Affine}
use Rattle.linear_cons.specs.declared.row.Row.{Row}
use Rattle.linear_cons.specs.Functions.{value_at}
use Rattle.linear_cons.specs.Rows.{Meets, MeetsAll}
use Rattle.linear_cons.specs.Tightest.{AreTightest, IsCovered}
use Rattle.linear_solve.proofs.Tightening.{looser_met}
use Rattle.decision_tree.specs.Paths.{MeetsPath}

-- a store meets the tightest rows exactly where it meets the path
pub tightest_met : (path : List Affine) (kept : List Row) (store : List ℤ) → AreTightest path kept →
    MeetsAll store kept ↔ MeetsPath store path
tightest_met path kept store tightest =
    let whole : pos 0 <ℤ pos 1 = omega (arith, ints) in (
      λ met. All-weaker (λ a. IsCovered kept a) (λ a. pos 0 ≤ℤ value_at a store) (λ a covered. looser_met covered.row a store (pos 1) covered.part covered.tighter whole (All-contains (λ r. Meets store r) kept covered.row met covered.row_in)) path tightest.covers,
      λ met. All-weaker (λ (r : Row). Contains path r.affine) (λ r. Meets store r) (λ r member. All-contains (λ a. pos 0 ≤ℤ value_at a store) path r.affine met member) kept tightest.among,
    )
