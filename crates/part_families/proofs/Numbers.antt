-- No number in a row of a family is above the growth of its formula, nor above that of a formula of which it is a part.
use Rattle.std.proofs.Common.{⊎_elim, inl, inr, ℕ, ◌≤◌, Bool, List, All, length, sym, subst, arith}
use Rattle.std.proofs.Math.Nat.{le_refl}
use Rattle.step_meaning.specs.Syntax.{Statements}
use Rattle.ctl_formula.specs.Formulas.{Ctl, both, either, next, until, weak}
use Rattle.control_flow.specs.Labels.{all_labels}
use Rattle.linear_cons.proofs.Sizes.{sizes_grown}
use Rattle.decision_tree.specs.Plans.{Plan, bottom, branch, leaf, top}
use Rattle.decision_tree.specs.declared.affine_rank.AffineRank.{AffineRank}
use Rattle.decision_tree.specs.declared.family.Family.{Family}
use Rattle.count_down.proofs.Entering.{IsAlone}
use Rattle.count_down.proofs.Leads.{all_weaken}
use Rattle.unroll.specs.Levels.{RowsAtMost}
use Rattle.formula_measures.specs.Measures.{ctl_growth}
use Rattle.exact_families.proofs.Completed.{below_or, past_trees}
use Rattle.exact_families.proofs.Narrow.{less_growth, narrow_rows}
use Rattle.part_families.specs.Families.{HasRowsWithin, IsFamilyFor, IsNarrowFor, trees_of}

rows_more : (less most : ℕ) → less ≤ most → (plan : Plan AffineRank) → RowsAtMost less plan → RowsAtMost most plan
rows_more less most is bottom own = tt
rows_more less most is (top cause) own = tt
rows_more less most is (leaf why rank) own = tt
rows_more less most is (branch row this that) own =
    (sizes_grown less most row.affine is own.0, rows_more less most is this own.1, rows_more less most is that own.2)

pub more_rows : (less most : ℕ) → less ≤ most → (families : List (Family AffineRank)) → All (HasRowsWithin less) families → All (HasRowsWithin most) families
more_rows less most is families own =
    all_weaken (HasRowsWithin less) (HasRowsWithin most) families (λ family rows label. rows_more less most is (trees_of family label) (rows label)) own

pub narrow_family : (vars : ℕ) (body : Statements) (f : Ctl) (family : Family AffineRank) → IsFamilyFor vars body family → IsNarrowFor vars body f family
    → HasRowsWithin (ctl_growth body f) family
narrow_family vars body f family fits narrow label =
    ⊎_elim (λ low. narrow_rows (ctl_growth body f) body vars label (trees_of family label) ((narrow.0 label low).each))
    (λ past. subst (RowsAtMost (ctl_growth body f)) (sym (past_trees family.trees label (subst (λ n. n ≤ label) (sym fits.labels) past))) tt)
    (below_or label (length (all_labels body)))

-- one leaf has no row
pub alone_rows : (plan : Plan AffineRank) → IsAlone plan → RowsAtMost 0 plan
alone_rows plan (inl is) = subst (RowsAtMost 0) (sym is) tt
alone_rows plan (inr (why, rank, is)) = subst (RowsAtMost 0) (sym is) tt

-- ---- parts of a formula

pub growth_next : (body : Statements) (all : Bool) (f : Ctl) → ctl_growth body f ≤ ctl_growth body (next all f)
growth_next body all f = le_refl (ctl_growth body f)

pub growth_both : (body : Statements) (f g : Ctl) → (ctl_growth body f ≤ ctl_growth body (both f g)) × (ctl_growth body g ≤ ctl_growth body (both f g))
growth_both body f g = (less_growth body f (both f g) (omega arith), less_growth body g (both f g) (omega arith))

pub growth_either : (body : Statements) (f g : Ctl) → (ctl_growth body f ≤ ctl_growth body (either f g)) × (ctl_growth body g ≤ ctl_growth body (either f g))
growth_either body f g = (less_growth body f (either f g) (omega arith), less_growth body g (either f g) (omega arith))

pub growth_until : (body : Statements) (all : Bool) (f g : Ctl)
    → (ctl_growth body f ≤ ctl_growth body (until all f g)) × (ctl_growth body g ≤ ctl_growth body (until all f g))
growth_until body all f g = (less_growth body f (until all f g) (omega arith), less_growth body g (until all f g) (omega arith))

pub growth_weak : (body : Statements) (all : Bool) (f g : Ctl)
    → (ctl_growth body f ≤ ctl_growth body (weak all f g)) × (ctl_growth body g ≤ ctl_growth body (weak all f g))
growth_weak body all f g = (less_growth body f (weak all f g) (omega arith), less_growth body g (weak all f g) (omega arith))
