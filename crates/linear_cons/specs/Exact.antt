-- Operations on unbounded whole numbers, and operands that leave 128 bits.
use Rattle.std.specs.Prelude.{ℤ, ◌+ℤ◌, ◌-ℤ◌, ◌*ℤ◌}
use Rattle.linear_cons.specs.declared.exact.Op.{Op}
use Rattle.linear_cons.specs.declared.exact.Op.TheVariants.{Add, Sub, Mul}
use Rattle.linear_cons.specs.declared.exact.Wide.{Wide}
use Rattle.linear_cons.specs.Numbers.{Fits128}

-- the exact sum, difference or product
abbrev pub exact_result : Op → ℤ → ℤ → ℤ
exact_result Add left right = left +ℤ right
exact_result Sub left right = left -ℤ right
exact_result Mul left right = left *ℤ right

-- the exact result of the operation on the two operands is outside 128 bits
abbrev pub IsOutside : Wide → Type 0
IsOutside wide = ¬ Fits128 (exact_result wide.op wide.left wide.right)
