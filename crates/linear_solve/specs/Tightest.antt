-- The order of rows by their linear parts.
use Rattle.std.specs.Prelude.{ℤ, Bool, List}
use Rattle.std.specs.Cmp.Lexicographic.{pointwise, slice_cmp}
use Rattle.std.specs.Ordering.{int_cmp, int_eq, on, then_cmp}
use Rattle.std.specs.declared.cmp.Ordering.{Ordering}
use Rattle.linear_cons.specs.declared.row.Row.{Row}
use Rattle.linear_cons.specs.Functions.{coefficient}
use Rattle.linear_cons.specs.Numbers.{at_places}

-- the coefficients at the sixteen places
abbrev pub part_of : Row → List ℤ
part_of row = at_places (λ i. coefficient row.affine i)

-- a test of the same coefficients, an order by them, and one by them and then by the constant
abbrev pub same_part : Row → Row → Bool
same_part = on part_of (pointwise int_eq)

abbrev pub by_part : Row → Row → Ordering
by_part = on part_of (slice_cmp int_cmp)

abbrev pub by_part_and_constant : Row → Row → Ordering
by_part_and_constant = then_cmp by_part (on (λ row. row.affine.constant) int_cmp)
