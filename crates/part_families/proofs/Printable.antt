-- Trees of which those that can't be printed are given up, one after the other.
use Rattle.std.proofs.Common.{◌≡◌, inl, inr, ⊎_elim, ℕ, ◌<◌, ◌≤◌, ◌+◌, ◌^◌, ◌-◌, List, All, get_or, length, set, min, sym, subst, ◌∙◌, arith}
use Rattle.std.proofs.lemmas.Bool.{cases_lt}
use Rattle.std.proofs.lemmas.List.{get_or_past}
use Rattle.decision_tree.specs.Extent.{ComplementsFit, IsTreeOver}
use Rattle.decision_tree.specs.declared.affine_rank.AffineRank.{AffineRank}
use Rattle.decision_tree.specs.declared.reason.Cause.{Cause}
use Rattle.decision_tree.specs.declared.tree.Tree.{Tree, Top}
use Rattle.decision_tree.specs.Plans.{Plan, bottom, leaves_of, plan_of, top}
use Rattle.backward_transfer.specs.AffineShapes.{plans, tree_at}
use Rattle.backward_transfer.proofs.Putting.{plan_at, plans_length, plans_set, put_other, put_same, same_or}
use Rattle.exact_families.specs.Completeness.{AreKept, NoneGivenUp}
use Rattle.part_families.specs.Fitting.{IsFit}
use Rattle.part_families.proofs.Fit.{all_fit, bottom_fit}

-- the first of the trees may be printed
abbrev pub FitBelow : ℕ → ℕ → List (Tree AffineRank) → Type 0
FitBelow vars n trees = (label : ℕ) → label < n → IsFit vars (tree_at (plans trees) label)

pub plan_there : (trees : List (Tree AffineRank)) (l : ℕ) (tree : Tree AffineRank) → l < length trees → tree ≡ get_or trees l tree
    → plan_of tree ≡ tree_at (plans trees) l
plan_there trees l tree low there = subst (λ t. plan_of t ≡ tree_at (plans trees) l) (sym there) (plan_at trees l tree low)

pub next_fit : (vars : ℕ) (trees : List (Tree AffineRank)) (l : ℕ) (this that : Tree AffineRank) → plan_of this ≡ tree_at (plans trees) l
    → plan_of that ≡ tree_at (plans trees) l → IsTreeOver vars (plan_of this) → ComplementsFit (plan_of this)
    → min (leaves_of (plan_of that)) (2 ^ 64 - 1) < 2 ^ 64 - 1 → FitBelow vars l trees → FitBelow vars (l + 1) trees
next_fit vars trees l this that here there over complements few fit label below =
    elim (same_or label l) [
      | inl same ↦ subst (λ k. IsFit vars (tree_at (plans trees) k)) (sym same)
          (record {
            over = subst (IsTreeOver vars) here over;
            complements = subst ComplementsFit here complements;
            leaves = subst (λ plan. leaves_of plan < 2 ^ 64 - 1) there (omega (arith, few));
          })
      | inr apart ↦ fit label (omega (arith, below, apart))
    ]

-- one is given up
top_fit : (vars : ℕ) (cause : Cause) → IsFit vars (top cause)
top_fit vars cause = record { over = tt; complements = tt; leaves = omega (arith) }

module _ (trees : List (Tree AffineRank)) (l : ℕ) (cause : Cause) (low : l < length trees) where
  put_here : tree_at (plans (set trees l (Top cause))) l ≡ top cause
  put_here = subst (λ list. tree_at list l ≡ top cause) (sym (plans_set trees l (Top cause)))
      (put_same bottom (plans trees) l (top cause) (omega (arith, low, plans_length trees)))

  put_there : (label : ℕ) → (label ≡ l → ⊥) → tree_at (plans (set trees l (Top cause))) label ≡ tree_at (plans trees) label
  put_there label apart = subst (λ list. tree_at list label ≡ tree_at (plans trees) label) (sym (plans_set trees l (Top cause)))
      (put_other bottom (plans trees) l label (top cause) apart)

  pub put_fit : (vars : ℕ) → FitBelow vars l trees → FitBelow vars (l + 1) (set trees l (Top cause))
  put_fit vars fit label below =
      elim (same_or label l) [
        | inl same ↦ subst (λ k. IsFit vars (tree_at (plans (set trees l (Top cause))) k)) (sym same) (subst (IsFit vars) (sym put_here) (top_fit vars cause))
        | inr apart ↦ subst (IsFit vars) (sym (put_there label apart)) (fit label (omega (arith, below, apart)))
      ]

  pub put_kept : (old : List (Plan AffineRank)) → AreKept old (plans trees) → AreKept old (plans (set trees l (Top cause)))
  put_kept old kept label none =
      elim (same_or label l) [
        | inl same ↦ absurd (subst NoneGivenUp put_here (subst (λ k. NoneGivenUp (tree_at (plans (set trees l (Top cause))) k)) same none))
        | inr apart ↦ put_there label apart ∙ kept label (subst NoneGivenUp (put_there label apart) none)
      ]

pub all_of_them : (vars : ℕ) (trees : List (Tree AffineRank)) (n : ℕ) → length trees ≤ n → FitBelow vars n trees → All (IsFit vars) (plans trees)
all_of_them vars trees n many fit = all_fit vars (plans trees) (λ label. ⊎_elim
    (λ low. fit label (omega (arith, low, many, plans_length trees)))
    (λ past. subst (IsFit vars) (sym (get_or_past (plans trees) label bottom past)) (bottom_fit vars))
    (cases_lt label (length (plans trees))))
