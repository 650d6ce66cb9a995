-- A cover that grows.
use Rattle.std.specs.Prelude.{Option, None, Some}
use Rattle.decision_tree.specs.declared.affine_rank.AffineRank.{AffineRank}
use Rattle.decision_tree.specs.Plans.{Plan}

-- what was found, or else what stood
abbrev pub next_of : Option (Plan AffineRank) → Option (Plan AffineRank) → Option (Plan AffineRank)
next_of old None = old
next_of old (Some found) = Some found
