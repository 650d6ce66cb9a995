-- The trees of a candidate: a bound of steps where a function is at least 0, and another where it isn't.
use Rattle.std.specs.Prelude.{ℕ, ◌+◌, ℤ, pos}
use Rattle.linear_cons.specs.declared.affine.Affine.{Affine}
use Rattle.linear_cons.specs.declared.row.RowKind.{RowKind}
use Rattle.linear_cons.specs.declared.row.RowKind.TheVariants.{Always, Never, Row as Kept}
use Rattle.linear_cons.specs.Functions.{constant_of, multiple_of, sum_of}
use Rattle.linear_cons.specs.Rows.{row_kind_of}
use Rattle.decision_tree.specs.Plans.{Plan, branch, leaf}
use Rattle.decision_tree.specs.declared.affine_rank.AffineRank.{AffineRank}
use Rattle.decision_tree.specs.declared.reason.Pick.TheVariants.{All as Every}
use Rattle.decision_tree.specs.declared.reason.Why.TheVariants.{End, Step}

-- the first where a constraint is met, the second elsewhere
abbrev pub split : {R : Type 0} → RowKind → Plan R → Plan R → Plan R
split Always this that = this
split Never this that = that
split (Kept row) this that = branch row this that

-- the function as a rank; a leaf that promises that each step leads on, within the function's value
abbrev pub ranked : Affine → AffineRank
ranked a = record { value = a }

abbrev pub within : Affine → Plan AffineRank
within a = leaf (Step Every) (ranked a)

-- the leaf of the end
abbrev pub ended : Plan AffineRank
ended = leaf End (ranked (constant_of (pos 0)))

-- the function and a number
abbrev pub shifted : Affine → ℤ → Affine
shifted e d = sum_of e (constant_of d)

-- A loop whose turns, test included, take at most m steps, and behind which at most s steps follow: where k steps are left in the turn,
-- and the function will be e at the next test, which enters the loop again where e is at least 0, m * (e + 1) + k + 1 + s steps end it
abbrev pub bound : ℕ → ℕ → Affine → ℕ → Affine
bound m s e k = sum_of (multiple_of (shifted e (pos 1)) (pos m)) (constant_of (pos (k + 1 + s)))

-- within that bound where e is at least 0, and within k + 1 + s steps elsewhere
abbrev pub count_tree : ℕ → ℕ → Affine → ℕ → Plan AffineRank
count_tree m s e k = split (row_kind_of e) (within (bound m s e k)) (within (constant_of (pos (k + 1 + s))))
