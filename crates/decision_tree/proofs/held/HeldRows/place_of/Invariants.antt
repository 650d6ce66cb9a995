use Rattle.std.proofs.Common.{◌≡◌, ℕ, ◌<◌, false, get_or}
use Rattle.linear_cons.specs.declared.row.Row.{Row}
use Rattle.decision_tree.specs.Trails.{same_part}
use Rattle.decision_tree.proofs.held.HeldRows.place_of.Given as goal

-- no row so far has the coefficients
abbrev pub invariant-loop-place : goal.invariant-loop-place
invariant-loop-place l = (k : ℕ) (d : Row) → k < l.place → same_part (get_or l.self k d) l.row ≡ false
