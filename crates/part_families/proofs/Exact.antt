-- Families that are defined wherever their formula holds, in a plain program without loops.
use Rattle.std.proofs.Common.{◌≡◌, ℕ, zero, suc, ◌<◌, ◌≤◌, Option, None, Some, List, length, slice_get, replicate, refl, sym, ap, subst, ◌∙◌, arith}
use Rattle.step_meaning.specs.Syntax.{Statements}
use Rattle.step_meaning.specs.Valid.{IsBody}
use Rattle.control_flow.specs.Labels.{all_labels}
use Rattle.control_flow.proofs.LabelLaws.{only_end_is_final}
use Rattle.ctl_formula.specs.declared.formula.Formula.{Formula}
use Rattle.ctl_formula.specs.Formulas.{Ctl, exit, truth}
use Rattle.ctl_formula.specs.Mirror.{ctl}
use Rattle.decision_tree.specs.Evaluation.{eval}
use Rattle.decision_tree.specs.Plans.{Plan, is_defined}
use Rattle.decision_tree.specs.declared.affine_rank.AffineRank.{AffineRank}
use Rattle.decision_tree.specs.declared.family.Family.{Family}
use Rattle.decision_tree.specs.declared.reason.Why.TheVariants.{Atom}
use Rattle.backward_transfer.specs.AffineShapes.{tree_at}
use Rattle.backward_sweeps.specs.Moving.{at_once}
use Rattle.part_trees.specs.Proposed.{AreProposed, operand, trees_in as list_in}
use Rattle.control_flow.specs.Told.{Told}
use Rattle.control_flow.specs.Transitions.{AreTold}
use Rattle.control_flow.specs.declared.transition.Transition.{Transition}
use Rattle.tree_check.specs.Checking.{families_of}
use Rattle.leaf_search.specs.Operands.{family_at}
use Rattle.tree_support.specs.Setting.{Trees, trees_in}
use Rattle.exact_families.specs.Completeness.{AreKept, EachPart, IsComplete, IsLoopless, NoneGivenUp, two_parts}
use Rattle.exact_families.proofs.Completed.{proposed_complete}
use Rattle.exact_families.proofs.Counting.{same_parts}
use Rattle.part_families.specs.Families.{IsExact, trees_of}
use Rattle.part_families.specs.Known.{end_trees, truth_trees}

-- the same trees are defined at the same stores
along : (body : Statements) (f : Ctl) (family other : Trees AffineRank) → ((label : ℕ) → family label ≡ other label) → IsComplete body f other
    → IsComplete body f family
along body f family other same complete label store low long sat =
    ap (λ plan. is_defined (eval plan store)) (same label) ∙ complete label store low long sat

-- the operands' families, as those of a first and a second part
pub one_operand : (found : Option (Family AffineRank)) (label : ℕ) → family_at found label ≡ tree_at (list_in found) label
one_operand None label = refl
one_operand (Some family) label = refl

as_parts : (body : Statements) (f : Ctl) (operands : List (Family AffineRank)) → EachPart (IsComplete body) f (families_of operands)
    → EachPart (IsComplete body) f (two_parts (operand operands 0) (operand operands 1))
as_parts body f operands each =
    same_parts (IsComplete body) f (families_of operands) (two_parts (operand operands 0) (operand operands 1))
    (λ g complete. along body g (tree_at (operand operands 0)) (families_of operands 0) (λ label. sym (one_operand (slice_get operands 0) label)) complete)
    (λ g complete. along body g (tree_at (operand operands 1)) (families_of operands 1) (λ label. sym (one_operand (slice_get operands 1) label)) complete) each

-- what the check leaves of the trees that are proposed
pub found_exact : (body : Statements) (vars : ℕ) → vars ≤ 15 → IsBody vars body → IsLoopless body → (told : Told) (transitions : List Transition)
    → length transitions ≡ length (all_labels body) → AreTold body told transitions → (formula : Formula) (operands : List (Family AffineRank))
    (trees : List (Plan AffineRank)) (family : Family AffineRank) → length trees ≡ length (all_labels body)
    → AreProposed formula transitions (operand operands 0) (operand operands 1) trees → AreKept trees family.trees
    → EachPart (IsComplete body) (ctl formula) (families_of operands) → IsExact body (ctl formula) family
found_exact body vars few valid loopless told transitions same told_are formula operands trees family labels are kept each uncut =
    along body (ctl formula) (trees_of family) (tree_at trees) (λ label. kept label (uncut label))
    (proposed_complete body vars few valid loopless.fitting loopless.free told transitions same told_are formula (operand operands 0) (operand operands 1) trees labels are
    (λ label. subst NoneGivenUp (kept label (uncut label)) (uncut label)) (as_parts body (ctl formula) operands each))

-- ---- the families that are known

pub copied : (n : ℕ) (plan : Plan AffineRank) (label : ℕ) → label < n → tree_at (replicate n plan) label ≡ plan
copied zero plan label low = absurd (omega arith)
copied (suc n) plan zero low = refl
copied (suc n) plan (suc label) low = copied n plan label (omega arith)

pub truth_exact_at : (body : Statements) (labels : ℕ) → labels ≡ length (all_labels body) → (family : Family AffineRank) → family.trees ≡ truth_trees labels
    → IsComplete body truth (trees_of family)
truth_exact_at body labels own family is label store low long sat =
    ap (λ trees. is_defined (eval (trees_in trees label) store)) is
    ∙ ap (λ plan. is_defined (eval plan store)) (copied labels (at_once Atom) label (omega (arith, own, low)))

pub end_exact_at : (body : Statements) (labels : ℕ) (family : Family AffineRank) → family.trees ≡ end_trees labels → IsComplete body exit (trees_of family)
end_exact_at body labels family is label store low long final =
    let last : label ≡ 0 = only_end_is_final body label low final in
    ap (λ trees. is_defined (eval (trees_in trees label) store)) is ∙ ap (λ l. is_defined (eval (trees_in (end_trees labels) l) store)) last

pub truth_exact : (body : Statements) (labels : ℕ) → labels ≡ length (all_labels body) → (family : Family AffineRank) → family.trees ≡ truth_trees labels
    → IsExact body truth family
truth_exact body labels own family is uncut = truth_exact_at body labels own family is

pub end_exact : (body : Statements) (labels : ℕ) (family : Family AffineRank) → family.trees ≡ end_trees labels → IsExact body exit family
end_exact body labels family is uncut = end_exact_at body labels family is
