use Rattle.std.proofs.Common.{to_z-of_z}
use Rattle.linear_forms.proofs.product.least_corner.Goals as goal

pub returns : goal.returns
returns c =
    let first = c.ranges.a in
    let second = c.ranges.b in
    let third = c.ranges.c in
    let fourth = c.ranges.d in
    let ac = simp to_z-of_z at c.exact_product.ensures in
    let ad = simp to_z-of_z at c.exact_product-2.ensures in
    let bc = simp to_z-of_z at c.exact_product-3.ensures in
    let bd = simp to_z-of_z at c.exact_product-4.ensures in
    c.known.ensures _ (c.lesser-3.ensures _ _ (c.lesser.ensures _ _ ac ad) (c.lesser-2.ensures _ _ bc bd))
