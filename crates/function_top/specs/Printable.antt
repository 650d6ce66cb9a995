-- What a report can be printed of.
use Rattle.std.specs.Prelude.{◌≢◌, ℕ, ⊤}
use Rattle.decision_tree.specs.declared.affine_rank.AffineRank.{AffineRank}
use Rattle.decision_tree.specs.Extent.{ComplementsFit, IsTreeOver}
use Rattle.decision_tree.specs.Plans.{Plan, plan_of}
use Rattle.unroll.specs.Levels.{RanksCount}
use Rattle.ordinal_rank.specs.Families.{IsFit}
use Rattle.report_text.specs.declared.line.Top.TheVariants.{Exact as Counted}
use Rattle.function_top.specs.declared.found.Exact.{Exact}
use Rattle.function_top.specs.declared.found.Exact.TheVariants.{Made, Unasked, Unmade}
use Rattle.function_top.specs.declared.found.Found.{Found}

-- the tree speaks of so many variables alone, and the complements of its rows fit 128 bits
pub record IsPrintable (vars : ℕ) (tree : Plan AffineRank) : Type 0 where
  pub over : IsTreeOver vars tree
  pub complements : ComplementsFit tree

-- so does the tree of an exact part, whose ranks are constants
abbrev pub IsExactPrintable : ℕ → Exact → Type 0
IsExactPrintable vars Unasked = ⊤
IsExactPrintable vars (Unmade stop) = ⊤
IsExactPrintable vars (Made tests stop tree) = IsPrintable vars (plan_of tree) × RanksCount (plan_of tree)

-- so do the cover, whose leaves claim no exact number, and the tree of ordinal ranks
pub record IsFoundPrintable (vars : ℕ) (found : Found) : Type 0 where
  pub exact : IsExactPrintable vars found.exact
  pub claims : found.claims ≢ Counted
  pub cover : IsPrintable vars (plan_of found.cover)
  pub ranked : IsFit vars (plan_of found.ranked)
