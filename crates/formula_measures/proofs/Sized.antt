-- The greatest size of a formula, of the sizes at the labels and the greatest of the parts.
use Rattle.std.proofs.Common.{◌≡◌, ℕ, ◌-◌, ◌^◌, max, List, length, refl, sym, ap, subst, ◌∙◌, arith}
use Rattle.step_meaning.specs.Counts.{HasNoLoop}
use Rattle.step_meaning.specs.Syntax.{Statements}
use Rattle.linear_cons.specs.declared.row.RowKind.{RowKind}
use Rattle.linear_cons.specs.declared.row.RowKind.TheVariants.{Always, Never, Row as Kept}
use Rattle.control_flow.specs.Actions.{AtAll}
use Rattle.control_flow.specs.Labels.{all_labels}
use Rattle.control_flow.specs.Measures.{greatest_below}
use Rattle.control_flow.specs.Sizing.{HoldsAt, held, held_at}
use Rattle.control_flow.proofs.Held.{greater_kept}
use Rattle.control_flow.proofs.Holding.{greatest_held}
use Rattle.ctl_formula.specs.Formulas.{Ctl}
use Rattle.ctl_formula.specs.Mirror.{ctl_of_kind}
use Rattle.formula_measures.specs.Measures.{greatest_own, greatest_part, part_size}
use Rattle.formula_measures.specs.Sizing.{AreSizesOf}
use Rattle.formula_measures.specs.declared.sizes.Sizes.{Sizes}

pub sizes_above : (body : Statements) (f : Ctl) (sizes : Sizes) (list : List ℕ) (below rest : ℕ) → sizes.at.items ≡ list → length list ≡ length (all_labels body)
    → (HasNoLoop body → AtAll body (HoldsAt (part_size body f) list))
    → sizes.greatest ≡ max (greatest_below (λ label. held_at list label) (length list)) below → (HasNoLoop body → below ≡ held rest)
    → greatest_part body f ≡ max (greatest_own body f) rest → AreSizesOf body f sizes
sizes_above body f sizes list below rest are count each is below_is whole = record {
  count = ap length are ∙ count;
  each = λ loopless. subst (λ xs. AtAll body (HoldsAt (part_size body f) xs)) (sym are) (each loopless);
  greatest = λ loopless.
      is
      ∙ greater_kept (2 ^ 128 - 1) (omega arith) (greatest_below (λ label. held_at list label) (length list)) below (greatest_own body f) rest
      (ap (greatest_below (λ label. held_at list label)) count
      ∙ greatest_held (2 ^ 128 - 1) (omega arith) (length (all_labels body)) (λ label. held_at list label) (part_size body f) (each loopless))
      (below_is loopless)
      ∙ ap held (sym whole);
}

-- and of a formula without parts
pub sizes_alone : (body : Statements) (f : Ctl) (sizes : Sizes) (list : List ℕ) → sizes.at.items ≡ list → length list ≡ length (all_labels body)
    → (HasNoLoop body → AtAll body (HoldsAt (part_size body f) list))
    → sizes.greatest ≡ max (greatest_below (λ label. held_at list label) (length list)) 0 → greatest_part body f ≡ greatest_own body f → AreSizesOf body f sizes
sizes_alone body f sizes list are count each is whole =
    sizes_above body f sizes list 0 0 are count each is (λ loopless. (omega arith)) (omega (arith, whole))

-- a formula that has the same size at each label
pub sizes_alike : (body : Statements) (f : Ctl) (sizes : Sizes) (list : List ℕ) (size : ℕ) → sizes.at.items ≡ list → length list ≡ length (all_labels body)
    → AtAll body (λ label. held_at list label ≡ size) → sizes.greatest ≡ max (greatest_below (λ label. held_at list label) (length list)) 0
    → size ≡ held size → ((label : ℕ) → part_size body f label ≡ size) → greatest_part body f ≡ greatest_own body f → AreSizesOf body f sizes
sizes_alike body f sizes list size are count each is small own whole =
    sizes_alone body f sizes list are count (λ loopless label low. each label low ∙ small ∙ ap held (sym (own label))) is whole

-- an atom
pub atom_sizes : (body : Statements) (kind : RowKind) (label : ℕ) → part_size body (ctl_of_kind kind) label ≡ 5
atom_sizes body Always label = refl
atom_sizes body Never label = refl
atom_sizes body (Kept row) label = refl

pub atom_greatest : (body : Statements) (kind : RowKind) → greatest_part body (ctl_of_kind kind) ≡ greatest_own body (ctl_of_kind kind)
atom_greatest body Always = refl
atom_greatest body Never = refl
atom_greatest body (Kept row) = refl
