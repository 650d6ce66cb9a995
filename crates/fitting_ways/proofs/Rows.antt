-- Ways through trees whose rows have small numbers.
use Rattle.std.proofs.Common.{ℕ, ◌≤◌, ◌^◌, ℤ, pos, int_le, Bool, true, false, if◌then◌else◌, All, List, [], arith}
use Rattle.std.proofs.lemmas.List.Elements.{All-cons}
use Rattle.linear_cons.specs.declared.row.Row.{Row}
use Rattle.linear_cons.specs.Functions.{PartsFit, value_at}
use Rattle.linear_cons.proofs.Sizes.{sizes_grown}
use Rattle.decision_tree.specs.Evaluation.{WayFits, rows_met}
use Rattle.decision_tree.specs.Plans.{Plan, bottom, branch, leaf, top}
use Rattle.decision_tree.specs.declared.affine_rank.AffineRank.{AffineRank}
use Rattle.unroll.specs.Levels.{RowsAtMost}
use Rattle.fitting_ways.specs.Ways.{HasSmallNumbers, SmallWaysFit}
use Rattle.fitting_ways.proofs.Values.{parts_fit}

-- each row that is met has parts that fit
abbrev pub AllFit : List ℤ → List Row → Type 0
AllFit store rows = All (λ (row : Row). PartsFit row.affine store) rows

pub none_fit : (store : List ℤ) → AllFit store []
none_fit store k row low = absurd (omega arith)

-- so it is behind a row where it is behind both sides
pub side_fits : (store : List ℤ) (met : Bool) (first second : List Row) → AllFit store first → AllFit store second
    → AllFit store (if met then first else second)
side_fits store true first second here there = here
side_fits store false first second here there = there

module _ (most : ℕ) (little : most ≤ 2 ^ 60) (store : List ℤ) (small : HasSmallNumbers store) where
  way_fits : (tree : Plan AffineRank) → RowsAtMost most tree → WayFits tree store
  way_fits (branch row this that) sizes =
      let met = int_le (pos 0) (value_at row.affine store) in
      All-cons (λ row. PartsFit row.affine store) row (if met then rows_met this store else rows_met that store)
      (parts_fit row.affine store (sizes_grown most (2 ^ 60) row.affine little sizes.0) small)
      (side_fits store met (rows_met this store) (rows_met that store) (way_fits this sizes.1) (way_fits that sizes.2))
  way_fits (leaf why rank) sizes = none_fit store
  way_fits bottom sizes = none_fit store
  way_fits (top cause) sizes = none_fit store

pub rows_fit : (most : ℕ) (tree : Plan AffineRank) → most ≤ 2 ^ 60 → RowsAtMost most tree → SmallWaysFit tree
rows_fit most tree little sizes store small = way_fits most little store small tree sizes
