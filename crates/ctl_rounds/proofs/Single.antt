-- The numbers in the rows of the one family of a program without loops.
use Rattle.std.proofs.Common.{◌≡◌, ℕ, List, [], ◌∷◌, All, length, arith}
use Rattle.std.proofs.lemmas.List.Elements.{All-cons, All-head, All-nil}
use Rattle.step_meaning.specs.Syntax.{Statements}
use Rattle.ctl_formula.specs.Formulas.{Ctl}
use Rattle.decision_tree.specs.declared.affine_rank.AffineRank.{AffineRank}
use Rattle.decision_tree.specs.declared.family.Family.{Family}
use Rattle.formula_measures.specs.Measures.{ctl_growth}
use Rattle.part_families.specs.Families.{HasRowsWithin, IsFamilyFor, IsNarrowFor}
use Rattle.part_families.proofs.Numbers.{narrow_family}
use Rattle.ctl_rounds.specs.Finding.{FirstIs}

-- where there is one family, which is narrow
pub only_rows : (vars : ℕ) (body : Statements) (f : Ctl) (tops : List (Family AffineRank)) → length tops ≡ 1 → All (IsFamilyFor vars body) tops
    → FirstIs (IsNarrowFor vars body f) tops → All (HasRowsWithin (ctl_growth body f)) tops
only_rows vars body f [] one fits narrow = absurd narrow
only_rows vars body f (family ∷ []) one fits narrow =
    All-cons (HasRowsWithin (ctl_growth body f)) family [] (narrow_family vars body f family (All-head (IsFamilyFor vars body) family [] fits) narrow)
    (All-nil (HasRowsWithin (ctl_growth body f)))
only_rows vars body f (family ∷ other ∷ more) one fits narrow = absurd (omega (arith, one))
