-- What is done at a label, as it stands in a table.
use Rattle.std.proofs.Common.{◌≡◌, ℕ, zero, suc, ◌+◌, ◌<◌, ◌≤◌, List, [], ◌∷◌, ◌++◌, length, refl, sym, subst, ◌∙◌, ap, arith, ⊎_elim}
use Rattle.linear_forms.proofs.Naming.{number_names, test_names}
use Rattle.step_meaning.specs.Syntax.{Statements}
use Rattle.step_meaning.specs.Valid.{IsBody}
use Rattle.control_flow.specs.Actions.{IsPlaced, IsSorted}
use Rattle.control_flow.specs.Labels.{Action, ends, assigns, passes, tests, action_at, all_labels}
use Rattle.control_flow.specs.Sizing.{held_at}
use Rattle.control_flow.proofs.Filling.{same_or}
use Rattle.control_flow.proofs.LabelLaws.{labels_are_sorted}

placed_of : (vars : ℕ) → vars ≤ 15 → (action : Action) → IsSorted vars action → IsPlaced action
placed_of vars few ends sorted = tt
placed_of vars few (assigns x e next) sorted = let low = sorted.0 in (omega (arith, few, low), number_names vars 16 (omega (arith, few)) e sorted.1)
placed_of vars few (passes next) sorted = tt
placed_of vars few (tests head c p q) sorted = test_names vars 16 (omega (arith, few)) c sorted

pub is_placed : (vars : ℕ) → vars ≤ 15 → (body : Statements) → IsBody vars body → (l : ℕ) → l < length (all_labels body) → (action : Action) → action ≡ action_at body l
    → IsPlaced action
is_placed vars few body sorted l low action is = subst IsPlaced (sym is) (placed_of vars few (action_at body l) (labels_are_sorted vars body sorted l low))

-- ---- a number more

more_before : (list : List ℕ) (x l : ℕ) → l < length list → held_at (list ++ x ∷ []) l ≡ held_at list l
more_before [] x l low = absurd (omega arith)
more_before (y ∷ ys) x zero low = refl
more_before (y ∷ ys) x (suc l) low = more_before ys x l (omega arith)

more_last : (list : List ℕ) (x l : ℕ) → l ≡ length list → held_at (list ++ x ∷ []) l ≡ x
more_last [] x zero last = refl
more_last [] x (suc l) last = absurd (omega arith)
more_last (y ∷ ys) x zero last = absurd (omega arith)
more_last (y ∷ ys) x (suc l) last = more_last ys x l (omega arith)

pub length_more : (list : List ℕ) (x : ℕ) → length (list ++ x ∷ []) ≡ length list + 1
length_more [] x = refl
length_more (y ∷ ys) x = let more = length_more ys x in omega (arith, more)

pub one_more : (list : List ℕ) (x n : ℕ) (f : ℕ → ℕ) → length list ≡ n → ((l : ℕ) → l < n → held_at list l ≡ f l) → x ≡ f n
    → (l : ℕ) → l < n + 1 → held_at (list ++ x ∷ []) l ≡ f l
one_more list x n f count before here l low =
    ⊎_elim
    (λ (same : l ≡ n). more_last list x l (omega (arith, same, count)) ∙ here ∙ ap f (sym same))
    (λ (apart : l ≡ n → ⊥). let less : l < n = omega arith in more_before list x l (omega (arith, less, count)) ∙ before l less) (same_or l n)
