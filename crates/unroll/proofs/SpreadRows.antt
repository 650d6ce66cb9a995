-- Each row of a spreading has sixteen coefficients.
use Rattle.std.proofs.Common.{◌≡◌, Bool, length}
use Rattle.step_meaning.specs.Syntax.{Expression}
use Rattle.linear_cons.specs.declared.bounds.Bounds.{Bounds}
use Rattle.linear_cons.specs.declared.row.Row.{Row}
use Rattle.linear_forms.specs.Duality.{EachOf}
use Rattle.linear_forms.specs.Spreading.{spread_of}
use Rattle.linear_forms.proofs.SpreadEach.{spread_each}

abbrev pub IsLong : Row → Type 0
IsLong row = length row.affine.coef ≡ 16

pub spread_long : (bounds : Bounds) (c : Expression) (t : Bool) → EachOf (EachOf IsLong) (spread_of bounds c t)
spread_long bounds c t = spread_each IsLong (λ a row by fit. by.places) bounds c t
