-- Safe trees, label by label.
use Rattle.std.proofs.Common.{◌≡◌, ℕ, zero, suc, List, Some, [], ◌∷◌, ◌++◌, length, slice_get, sym, subst}
use Rattle.linear_cons.specs.declared.bounds.Bounds.{Bounds}
use Rattle.step_meaning.specs.Syntax.{Statements}
use Rattle.control_flow.specs.Labels.{Action, action_at}
use Rattle.control_flow.specs.Told.{no_bounds, told_at}
use Rattle.decision_tree.specs.declared.affine_rank.AffineRank.{AffineRank}
use Rattle.decision_tree.specs.Plans.{Plan, bottom}
use Rattle.tree_support.specs.Setting.{trees_in}
use Rattle.fit_check.specs.Safety.{AreSafe, IsSafeTree}

-- what holds at each label of a list's family, and of one tree more behind it
each_more : (P : ℕ → Plan AffineRank → Type 0) (plans : List (Plan AffineRank)) (plan : Plan AffineRank) → ((label : ℕ) → P label (trees_in plans label))
    → P (length plans) plan → ((label : ℕ) → P label bottom) → (label : ℕ) → P label (trees_in (plans ++ plan ∷ []) label)
each_more P [] plan all here none zero = here
each_more P [] plan all here none (suc k) = none (suc k)
each_more P (first ∷ more) plan all here none zero = all zero
each_more P (first ∷ more) plan all here none (suc k) = each_more (λ label. P (suc label)) more plan (λ label. all (suc label)) here (λ label. none (suc label)) k

-- where nothing is defined nothing is asked
pub nothing_is_safe : (vars : ℕ) (bounds : Bounds) (action : Action) → IsSafeTree vars bounds action bottom
nothing_is_safe vars bounds action = λ store why rank is. absurd (cc)

pub safe_more : (vars : ℕ) (body : Statements) (bounds : ℕ → Bounds) (plans : List (Plan AffineRank)) (plan : Plan AffineRank) → AreSafe vars body bounds (trees_in plans)
    → IsSafeTree vars (bounds (length plans)) (action_at body (length plans)) plan → AreSafe vars body bounds (trees_in (plans ++ plan ∷ []))
safe_more vars body bounds plans plan all here =
    each_more (λ label tree. IsSafeTree vars (bounds label) (action_at body label) tree) plans plan all here (λ label. nothing_is_safe vars (bounds label) (action_at body label))

-- a tree that is safe over the bounds of the set at the label is so over what the sets tell there
pub safe_here : {D : Type 0} (vars : ℕ) (bounds : D → Bounds) (states : List D) (label : ℕ) (state : D) (action : Action) (tree : Plan AffineRank)
    → slice_get states label ≡ Some state → IsSafeTree vars (bounds state) action tree → IsSafeTree vars (told_at bounds no_bounds (slice_get states label)) action tree
safe_here vars bounds states label state action tree there safe =
    subst (λ found. IsSafeTree vars (told_at bounds no_bounds found) action tree) (sym there) safe
