-- What is proposed within the measures of a program and a formula can be printed, and the check keeps all of it.
use Rattle.std.proofs.Common.{◌≡◌, ⊎_elim, ℕ, zero, suc, ◌≤◌, ◌-◌, List, [], ◌∷◌, All, length, replicate, slice_get, refl, sym, ap, subst, ◌∙◌, arith}
use Rattle.std.proofs.Math.Path.{fun_ext}
use Rattle.std.proofs.lemmas.Bool.{cases_lt}
use Rattle.std.proofs.lemmas.List.{get_or_past}
use Rattle.std.proofs.lemmas.List.Elements.{All-head, All-tail}
use Rattle.step_meaning.specs.Syntax.{Statements}
use Rattle.step_meaning.specs.Valid.{IsBody}
use Rattle.control_flow.specs.Labels.{all_labels}
use Rattle.control_flow.specs.Told.{Told}
use Rattle.control_flow.specs.Transitions.{AreTold}
use Rattle.control_flow.specs.declared.transition.Transition.{Transition}
use Rattle.ctl_formula.specs.declared.formula.Formula.{Formula}
use Rattle.ctl_formula.specs.Formulas.{Ctl, truth, falsity, exit, not_exit, always, never, least, negation, both, either, next, until, weak}
use Rattle.ctl_formula.specs.Mirror.{ctl}
use Rattle.decision_tree.specs.Plans.{Plan, bottom}
use Rattle.decision_tree.specs.declared.affine_rank.AffineRank.{AffineRank}
use Rattle.decision_tree.specs.declared.family.Family.{Family}
use Rattle.decision_tree.specs.declared.reason.Why.TheVariants.{Atom}
use Rattle.backward_transfer.specs.AffineShapes.{tree_at}
use Rattle.backward_sweeps.specs.Moving.{at_once}
use Rattle.part_trees.specs.Proposed.{AreProposed, operand}
use Rattle.tree_check.specs.Checking.{families_of}
use Rattle.tree_support.specs.Certificates.{affine_ranks}
use Rattle.tree_support.specs.Elimination.{Eliminates}
use Rattle.tree_support.specs.Setting.{setting_of, trees_in}
use Rattle.exact_families.specs.Completeness.{EachPart, two_parts}
use Rattle.formula_measures.specs.Measures.{ctl_growth}
use Rattle.exact_families.specs.Narrowness.{HasNoMore, IsNarrowAndComplete, IsNarrowAt}
use Rattle.exact_families.proofs.Counting.{same_parts}
use Rattle.exact_families.proofs.Narrow.{leaves_most, narrow_and_complete, narrow_complements, narrow_kept, narrow_over}
use Rattle.exact_families.proofs.Narrowing.{size_at}
use Rattle.exact_families.specs.Completeness.{IsLoopless}
use Rattle.part_families.specs.Families.{IsNarrowFor, IsWithin}
use Rattle.part_families.specs.Fitting.{IsFit}
use Rattle.part_families.specs.Known.{end_trees, truth_trees}
use Rattle.part_families.specs.Showing.{AreOperandsOf, IsKeptWhole, arity}
use Rattle.part_families.proofs.Exact.{copied, end_exact_at, one_operand, truth_exact_at}
use Rattle.part_families.proofs.Fit.{all_fit, bottom_fit}

-- ---- the operands

none_there : (operands : List (Family AffineRank)) → length operands ≡ 0 → (operand operands 0 ≡ []) × (operand operands 1 ≡ [])
none_there [] long = (refl, refl)
none_there (x ∷ xs) long = absurd (omega (arith, long))

no_second : (operands : List (Family AffineRank)) → length operands ≡ 1 → operand operands 1 ≡ []
no_second [] long = refl
no_second (x ∷ []) long = refl
no_second (x ∷ y ∷ more) long = absurd (omega (arith, long))

no_more : (f : Ctl) (operands : List (Family AffineRank)) → length operands ≡ arity f → HasNoMore f (operand operands 0) (operand operands 1)
no_more truth operands long = none_there operands long
no_more falsity operands long = none_there operands long
no_more exit operands long = none_there operands long
no_more not_exit operands long = none_there operands long
no_more always operands long = none_there operands long
no_more never operands long = none_there operands long
no_more (least a) operands long = none_there operands long
no_more (negation f) operands long = no_second operands long
no_more (next all f) operands long = no_second operands long
no_more (both f g) operands long = tt
no_more (either f g) operands long = tt
no_more (until all f g) operands long = tt
no_more (weak all f g) operands long = tt

module _ (count n : ℕ) (same : count ≡ n) where
  first_long : (operands : List (Family AffineRank)) → All (λ family. length family.trees ≡ count) operands → length (operand operands 0) ≤ n
  first_long [] each = omega arith
  first_long (x ∷ xs) each = let own = All-head (λ family. length family.trees ≡ count) x xs each in omega (arith, own, same)

  second_long : (operands : List (Family AffineRank)) → All (λ family. length family.trees ≡ count) operands → length (operand operands 1) ≤ n
  second_long [] each = omega arith
  second_long (x ∷ []) each = omega arith
  second_long (x ∷ y ∷ more) each =
      let own = All-head (λ family. length family.trees ≡ count) y more (All-tail (λ family. length family.trees ≡ count) x (y ∷ more) each) in omega (arith, own, same)

few_operands : (f : Ctl) (operands : List (Family AffineRank)) → length operands ≡ arity f → length operands ≤ 2
few_operands truth operands long = omega (arith, long)
few_operands falsity operands long = omega (arith, long)
few_operands exit operands long = omega (arith, long)
few_operands not_exit operands long = omega (arith, long)
few_operands always operands long = omega (arith, long)
few_operands never operands long = omega (arith, long)
few_operands (least a) operands long = omega (arith, long)
few_operands (negation f) operands long = omega (arith, long)
few_operands (next all f) operands long = omega (arith, long)
few_operands (both f g) operands long = omega (arith, long)
few_operands (either f g) operands long = omega (arith, long)
few_operands (until all f g) operands long = omega (arith, long)
few_operands (weak all f g) operands long = omega (arith, long)

none_further : (operands : List (Family AffineRank)) → length operands ≤ 2 → (place label : ℕ) → families_of operands (suc (suc place)) label ≡ bottom
none_further [] few place label = refl
none_further (x ∷ []) few place label = refl
none_further (x ∷ y ∷ []) few place label = refl
none_further (x ∷ y ∷ z ∷ more) few place label = absurd (omega (arith, few))

parts_same : (operands : List (Family AffineRank)) → length operands ≤ 2 → families_of operands ≡ two_parts (operand operands 0) (operand operands 1)
parts_same operands few = fun_ext (λ place. fun_ext (λ label. at place label))
  where
    at : (place label : ℕ) → families_of operands place label ≡ two_parts (operand operands 0) (operand operands 1) place label
    at zero label = one_operand (slice_get operands 0) label
    at (suc zero) label = one_operand (slice_get operands 1) label
    at (suc (suc place)) label = none_further operands few place label

-- the operands' families, as those of a first and a second part
narrow_parts : (vars : ℕ) (body : Statements) (f : Ctl) (operands : List (Family AffineRank)) → EachPart (IsNarrowAndComplete vars body) f (families_of operands)
    → EachPart (IsNarrowAndComplete vars body) f (two_parts (operand operands 0) (operand operands 1))
narrow_parts vars body f operands each =
    same_parts (IsNarrowAndComplete vars body) f (families_of operands) (two_parts (operand operands 0) (operand operands 1))
    (λ g own. subst (IsNarrowAndComplete vars body g) (fun_ext (λ label. one_operand (slice_get operands 0) label)) own)
    (λ g own. subst (IsNarrowAndComplete vars body g) (fun_ext (λ label. one_operand (slice_get operands 1) label)) own) each

-- the setting over the operands is that over the parts, as far as the formula has parts
module _ (body : Statements) (vars : ℕ) (few : vars ≤ 15) (valid : IsBody vars body) (loopless : IsLoopless body) (told : Told)
    (transitions : List Transition) (same : length transitions ≡ length (all_labels body)) (told_are : AreTold body told transitions)
    (short : length (all_labels body) ≤ 1024) (formula : Formula) (within : IsWithin vars body (ctl formula)) (operands : List (Family AffineRank))
    (count : ℕ) (counted : count ≡ length (all_labels body)) (own : AreOperandsOf (ctl formula) count operands)
    (trees : List (Plan AffineRank)) (labels : length trees ≡ length (all_labels body))
    (are : AreProposed formula transitions (operand operands 0) (operand operands 1) trees)
    (each : EachPart (IsNarrowAndComplete vars body) (ctl formula) (families_of operands)) where
  pub found_narrow : IsNarrowAndComplete vars body (ctl formula) (tree_at trees)
  found_narrow =
      narrow_and_complete body vars few valid loopless told transitions same told_are short formula within.0 within.1 (operand operands 0) (operand operands 1) trees labels are
      (narrow_parts vars body (ctl formula) operands each) (no_more (ctl formula) operands own.0) (first_long count (length (all_labels body)) counted operands own.1)
      (second_long count (length (all_labels body)) counted operands own.1)

  kept : IsKeptWhole (setting_of body told (ctl formula) (two_parts (operand operands 0) (operand operands 1))) trees
  kept drops new legal =
      narrow_kept body vars few valid loopless told transitions same told_are short formula within.0 within.1 (operand operands 0) (operand operands 1) trees labels are
      (narrow_parts vars body (ctl formula) operands each) (no_more (ctl formula) operands own.0) (first_long count (length (all_labels body)) counted operands own.1)
      (second_long count (length (all_labels body)) counted operands own.1) new drops legal

  pub found_kept : IsKeptWhole (setting_of body told (ctl formula) (families_of operands)) trees
  found_kept drops new legal =
      kept drops new (subst (λ parts. Eliminates affine_ranks (setting_of body told (ctl formula) parts) (trees_in trees) drops new)
      (parts_same operands (few_operands (ctl formula) operands own.0)) legal)

  pub found_fit : All (IsFit vars) trees
  found_fit =
      all_fit vars trees
      (λ label. ⊎_elim
      (λ low.
      let here = found_narrow.0 label (omega (arith, low, labels)) in
      let leaves = leaves_most (tree_at trees label) in
      let small = here.small in
      let most = size_at body (ctl formula) within.0.sizes label (omega (arith, low, labels)) in
      record {
        over = narrow_over (ctl_growth body (ctl formula)) body vars label (tree_at trees label) here.each;
        complements = narrow_complements (ctl_growth body (ctl formula)) body vars label within.0.growth (tree_at trees label) here.each;
        leaves = omega (arith, leaves, small, most);
      })
      (λ past. subst (IsFit vars) (sym (get_or_past trees label bottom past)) (bottom_fit vars))
      (cases_lt label (length trees)))

-- ---- the families that are known

bottoms : (k l : ℕ) → tree_at (replicate k bottom) l ≡ bottom
bottoms zero l = refl
bottoms (suc k) zero = refl
bottoms (suc k) (suc l) = bottoms k l

pub truth_narrow : (vars : ℕ) (body : Statements) (labels : ℕ) → labels ≡ length (all_labels body) → (family : Family AffineRank) → family.trees ≡ truth_trees labels
    → IsNarrowFor vars body truth family
truth_narrow vars body labels own family is = (
  (λ l low. subst (IsNarrowAt vars body truth l) (sym (ap (λ trees. trees_in trees l) is ∙ copied labels (at_once Atom) l (omega (arith, own, low))))
      (record { each = (tt, record { steps = 0; few = omega arith; is = refl }); small = omega arith })),
  truth_exact_at body labels own family is,
)

pub end_narrow : (vars : ℕ) (body : Statements) (labels : ℕ) (family : Family AffineRank) → family.trees ≡ end_trees labels → IsNarrowFor vars body exit family
end_narrow vars body labels family is = (
  (λ l low. subst (IsNarrowAt vars body exit l) (sym (ap (λ trees. trees_in trees l) is)) (at l)),
  end_exact_at body labels family is,
)
  where
    at : (l : ℕ) → IsNarrowAt vars body exit l (trees_in (end_trees labels) l)
    at zero = record { each = (tt, record { steps = 0; few = omega arith; is = refl }); small = omega arith }
    at (suc l) = subst (IsNarrowAt vars body exit (suc l)) (sym (bottoms (labels - 1) l)) (record { each = tt; small = omega arith })
