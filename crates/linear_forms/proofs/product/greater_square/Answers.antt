use Rattle.std.proofs.Common.{to_z-of_z}
use Rattle.linear_forms.proofs.product.greater_square.Goals as goal

pub returns : goal.returns
returns c =
    let first = c.ranges.a in
    let second = c.ranges.b in
    let lower = simp to_z-of_z at c.exact_product.ensures in
    let upper = simp to_z-of_z at c.exact_product-2.ensures in
    c.known.ensures _ (c.greater.ensures _ _ lower upper)
