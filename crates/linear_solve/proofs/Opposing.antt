-- Two opposed rows in either order, of which one has a constant below 0.
use Rattle.std.proofs.Common.{pos, ◌<ℤ◌, List, arith, All}
use Rattle.std.proofs.lemmas.Int.{ints, by_lt_z}
use Rattle.linear_cons.specs.declared.row.Row.{Row}
use Rattle.linear_cons.specs.Rows.{AreOpposed}
use Rattle.linear_solve.specs.Systems.{HasOpposed, IsOpposedToOne}
use Rattle.linear_solve.proofs.Lists.{member_of}

opposed_turned : (row other : Row) → AreOpposed row other → AreOpposed other row
opposed_turned row other opposed = record {
  negatives = λ i low. let is = opposed.negatives i low in omega (arith, ints, is);
  constants = let less = opposed.constants in omega (arith, ints, less);
}

-- where no row with a constant below 0 is opposed to one, no two are opposed
pub opposed_lower : (rows : List Row) → HasOpposed rows → All (λ row. row.affine.constant <ℤ pos 0 → IsOpposedToOne row rows → ⊥) rows → ⊥
opposed_lower rows two all = by_lt_z two.row.affine.constant (pos 0)
    (λ less. member_of (λ (row : Row). row.affine.constant <ℤ pos 0 → IsOpposedToOne row rows → ⊥) rows two.row all two.row_in less
    (record { other = two.other; other_in = two.other_in; opposed = two.opposed }))
    (λ from. member_of (λ (row : Row). row.affine.constant <ℤ pos 0 → IsOpposedToOne row rows → ⊥) rows two.other all two.other_in
    (let sum = two.opposed.constants in omega (arith, ints, sum, from))
    (record { other = two.row; other_in = two.row_in; opposed = opposed_turned two.row two.other two.opposed }))
