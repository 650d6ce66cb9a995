-- Where a safe tree is defined the numbers stay in range.
use Rattle.std.proofs.Common.{◌≡◌, ℕ, zero, suc, ◌<◌, inl, inr, pos, List, [], ◌++◌, refl, sym, subst, ap, ◌∙◌, ◌+◌, append_assoc, arith}
use Rattle.std.proofs.lemmas.Int.{ints}
use Rattle.step_meaning.proofs.Progress.{trichotomy}
use Rattle.linear_cons.specs.declared.bounds.Bounds.{Bounds}
use Rattle.linear_cons.specs.declared.row.RowKind.{RowKind}
use Rattle.linear_cons.specs.Ends.{exactly}
use Rattle.linear_cons.specs.Functions.{variable_at}
use Rattle.decision_tree.specs.declared.affine_rank.AffineRank.{AffineRank}
use Rattle.decision_tree.specs.Evaluation.{eval}
use Rattle.decision_tree.specs.Plans.{Plan}
use Rattle.step_meaning.specs.Outcome.{Store}
use Rattle.control_flow.specs.Labels.{Action, ends, assigns, passes, tests}
use Rattle.tree_support.proofs.Lists.{all_none}
use Rattle.fit_check.specs.Ranges.{MeetsKinds, NumbersStay, StaysIn, nested, own_rows, rows_at, variable_rows}
use Rattle.fit_check.specs.Safety.{IsSafeTree}
use Rattle.fit_check.proofs.Nesting.{defined_meets, meets_left, meets_right, numbers_stay, tests_stay}

variables_stay : (store : Store) (vars : ℕ) → MeetsKinds store (variable_rows vars) → (place : ℕ) → place < vars → StaysIn store (exactly (variable_at place))
unfolding variable_rows
variables_stay store zero met place low = absurd (omega arith)
variables_stay store (suc n) met place low =
    let own = meets_right store (variable_rows n) (own_rows (exactly (variable_at n))) met in
    elim (trichotomy (pos place) (pos n)) [
      | inl below ↦ variables_stay store n (meets_left store (variable_rows n) (own_rows (exactly (variable_at n))) met) place (omega (arith, ints))
      | inr (inl even) ↦ let same : n ≡ place = omega (arith, ints) in subst (λ p. StaysIn store (exactly (variable_at p))) same (own.0, own.1.0)
      | inr (inr above) ↦ absurd (omega (arith, ints))
    ]

action_stays : (store : Store) (bounds : Bounds) (action : Action) → MeetsKinds store (rows_at bounds action) → NumbersStay bounds action store
action_stays store bounds ends met = all_none _
action_stays store bounds (assigns x e next) met = numbers_stay store bounds e met
action_stays store bounds (passes next) met = all_none _
action_stays store bounds (tests head c then_to else_to) met = tests_stay store bounds c met

pub nested_is_safe : (vars : ℕ) (bounds : Bounds) (action : Action) (end : Plan AffineRank)
    → IsSafeTree vars bounds action (nested (variable_rows vars ++ rows_at bounds action) end)
nested_is_safe vars bounds action end store why rank is =
    let met = defined_meets store (variable_rows vars ++ rows_at bounds action) end why rank is in record {
      variables = variables_stay store vars (meets_left store (variable_rows vars) (rows_at bounds action) met);
      numbers = action_stays store bounds action (meets_right store (variable_rows vars) (rows_at bounds action) met);
    }

-- a tree with the same leaves is safe too
pub same_is_safe : (vars : ℕ) (bounds : Bounds) (action : Action) (old new : Plan AffineRank) → ((store : Store) → eval new store ≡ eval old store)
    → IsSafeTree vars bounds action old → IsSafeTree vars bounds action new
same_is_safe vars bounds action old new same safe store why rank is = safe store why rank (sym (same store) ∙ is)

-- one variable more
pub one_more : (n : ℕ) → variable_rows (suc n) ≡ variable_rows n ++ own_rows (exactly (variable_at n))
unfolding variable_rows
one_more n = refl

pub no_variable : variable_rows zero ≡ []
unfolding variable_rows
no_variable = refl

pub one_plus : (n : ℕ) (before : List RowKind) → (before ++ variable_rows n) ++ own_rows (exactly (variable_at n)) ≡ before ++ variable_rows (n + 1)
one_plus n before =
    let next : suc n ≡ n + 1 = omega arith in
    append_assoc before (variable_rows n) (own_rows (exactly (variable_at n))) ∙ ap (λ rows. before ++ rows) (sym (one_more n) ∙ ap variable_rows next)
