-- Affine functions as ranks.
use Rattle.std.specs.Prelude.{ℕ, pos, negsuc, int_lt, [], ◌∷◌, None, if◌then◌else◌}
use Rattle.linear_cons.specs.Functions.{NumbersFit, coefficient, constant_of, difference_of, sum_of}
use Rattle.linear_cons.specs.declared.affine.Affine.{Affine}
use Rattle.linear_cons.specs.Rows.{row_kind_of}
use Rattle.decision_tree.specs.Alternatives.{Alternatives}
use Rattle.decision_tree.specs.Trend.{Trend, falling, rising, unmentioned}
use Rattle.decision_tree.specs.declared.rank.Comparison.{Comparison}

-- at least 0 at exactly the stores where the first function exceeds the second
abbrev pub excess_of : Affine → Affine → Affine
excess_of a b = sum_of (difference_of a b) (constant_of (negsuc 0))

-- its numbers fit, and those of the difference that it is formed from
pub record ExcessFits (a b : Affine) : Type 0 where
  pub difference : NumbersFit (difference_of a b)
  pub excess : NumbersFit (excess_of a b)

-- the one constraint `a >= 0`, as a row: as a part, and alone
abbrev pub part_of : Affine → Comparison
part_of a = record { more = row_kind_of a; same = None }

abbrev pub only : Affine → Alternatives
only a = part_of a ∷ []

-- a function rises with a variable of positive coefficient and falls with one of negative coefficient
abbrev pub trend_of : Affine → ℕ → Trend
trend_of a place = if int_lt (pos 0) (coefficient a place) then rising
    else (if int_lt (coefficient a place) (pos 0) then falling else unmentioned)
