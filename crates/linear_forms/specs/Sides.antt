-- Whole numbers of which those outside 128 bits are known by their side alone.
use Rattle.std.specs.Prelude.{◌≡◌, ℤ, pos, ◌≤ℤ◌, ◌<ℤ◌}
use Rattle.linear_cons.specs.Numbers.{Fits128}
use Rattle.linear_forms.specs.declared.product.Reach.{Reach}
use Rattle.linear_forms.specs.declared.product.Reach.TheVariants.{Below, At, Above}

-- the number is below the 128 bits, or is this one of them, or is above them
abbrev pub Reaches : Reach → ℤ → Type 0
Reaches Below z = ¬ Fits128 z × (z <ℤ pos 0)
Reaches (At x) z = (x ≡ z) × Fits128 z
Reaches Above z = ¬ Fits128 z × (pos 0 ≤ℤ z)
