-- Trees that may be checked and printed.
use Rattle.std.specs.Prelude.{ℕ, ◌<◌, ◌-◌, ◌^◌}
use Rattle.decision_tree.specs.Extent.{ComplementsFit, IsTreeOver}
use Rattle.decision_tree.specs.declared.affine_rank.AffineRank.{AffineRank}
use Rattle.decision_tree.specs.Plans.{Plan, leaves_of}

-- The tree speaks of the first `vars` places alone, the complements of its rows fit 128 bits, and its leaves can be numbered.
pub record IsFit (vars : ℕ) (plan : Plan AffineRank) : Type 0 where
  pub over : IsTreeOver vars plan
  pub complements : ComplementsFit plan
  pub leaves : leaves_of plan < 2 ^ 64 - 1
