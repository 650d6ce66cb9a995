-- The walk over a tree that makes its lines.
use Rattle.std.specs.Prelude.{◌≡◌, List, ◌++◌}
use Rattle.linear_cons.specs.declared.affine.Affine.{Affine}
use Rattle.decision_tree.specs.Plans.{Plan}
use Rattle.ordinal_rank.specs.declared.ordinal.OrdinalRank.{OrdinalRank}
use Rattle.line_text.specs.declared.claim.Claim.{Claim}
use Rattle.report_text.specs.declared.line.Line.{Line}
use Rattle.report_text.specs.Leaves.{AreLines}
use Rattle.report_text.specs.Ranked.{IsRefined}

-- the lines of these leaves were appended
pub record AreAdded (leaves : List (List Affine × Claim)) (old new : List Line) : Type 0 where
  pub added : List Line
  pub appended : new ≡ old ++ added
  pub lines : AreLines leaves added

-- what stands for the line was appended
pub record IsRefinedOnto (ranked : Plan OrdinalRank) (line : Line) (old new : List Line) : Type 0 where
  pub added : List Line
  pub appended : new ≡ old ++ added
  pub stands : IsRefined ranked line added
