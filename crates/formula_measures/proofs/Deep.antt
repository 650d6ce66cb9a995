-- The size of an until at a label of a program without loops doesn't depend on the depth, where that is enough.
use Rattle.std.proofs.Common.{◌≡◌, inl, inr, ℕ, zero, suc, ◌+◌, ◌-◌, ◌*◌, ◌<◌, ◌≤◌, List, length, refl, sym, ap, subst, ◌∙◌, arith}
use Rattle.std.proofs.lemmas.Bool.{false≢true}
use Rattle.step_meaning.specs.Counts.{HasNoLoop}
use Rattle.step_meaning.specs.Syntax.{Statements}
use Rattle.control_flow.specs.Actions.{AtAll, AtBehind, AtNext, IsBehind}
use Rattle.control_flow.specs.Labels.{Action, ends, assigns, passes, tests, action_at, all_labels}
use Rattle.control_flow.specs.Measures.{size_before, size_of_test}
use Rattle.control_flow.specs.Sizing.{HoldsAt, held, held_at}
use Rattle.control_flow.proofs.Filling.{behind_next}
use Rattle.formula_measures.specs.Measures.{next_size, until_size}
use Rattle.formula_measures.proofs.Loopless.{no_heads}

same_before : (Z Y : ℕ → ℕ) (action : Action) → AtNext action (λ t. Z t ≡ Y t) → size_before Z action ≡ size_before Y action
same_before Z Y ends same = refl
same_before Z Y (assigns x e next) same = ap (λ m. m + 1) same
same_before Z Y (passes next) same = ap (λ m. m + 1) same
same_before Z Y (tests head c p q) same = ap (λ m. size_of_test c m (Z q)) same.0 ∙ ap (size_of_test c (Y p)) same.1

module _ (body : Statements) (loopless : HasNoLoop body) (k g : ℕ → ℕ) where
  abbrev n : ℕ
  n = length (all_labels body)

  abbrev Z : ℕ → ℕ → ℕ
  Z depth = until_size body k g depth

  -- the labels that follow are the end, or greater
  follows : (d e l : ℕ) → ((t : ℕ) → l < t → t < n → Z d t ≡ Z e t) → (t : ℕ) → t < n → IsBehind body (suc l) t → Z d t ≡ Z e t
  follows d e l same t low (inl on) = same t (omega (arith, on)) low
  follows d e l same t low (inr (inl end)) = subst (λ i. Z d i ≡ Z e i) (sym end) refl
  follows d e l same t low (inr (inr head)) = absurd (false≢true (sym (no_heads body loopless t low) ∙ head))

  before_same : (d e l : ℕ) → l < n → ((t : ℕ) → l < t → t < n → Z d t ≡ Z e t) → size_before (Z d) (action_at body l) ≡ size_before (Z e) (action_at body l)
  before_same d e l low same =
      same_before (Z d) (Z e) (action_at body l)
      (behind_next body (λ t. Z d t ≡ Z e t) l low (no_heads body loopless l low) (follows d e l same))

  deep_same : (d e l : ℕ) → l < n → n ≤ l + d → n ≤ l + e → Z d l ≡ Z e l
  deep_same d e zero low one two = refl
  deep_same zero e (suc l) low one two = absurd (omega (arith, low, one))
  deep_same (suc d) zero (suc l) low one two = absurd (omega (arith, low, two))
  deep_same (suc d) (suc e) (suc l) low one two =
      ap (λ b. 16 * (k (suc l) * g (suc l) * b))
      (before_same d e (suc l) low (λ t more t_low. deep_same d e t t_low (omega (arith, one, more)) (omega (arith, two, more))))

  -- so it goes by the sizes at the labels that follow
  pub until_at : (l : ℕ) → suc l < n → Z n (suc l) ≡ 16 * (k (suc l) * g (suc l) * size_before (Z n) (action_at body (suc l)))
  until_at l low =
      let one : n ≡ suc (n - 1) = omega (arith, low) in
      ap (λ depth. Z depth (suc l)) one
      ∙ ap (λ b. 16 * (k (suc l) * g (suc l) * b))
      (before_same (n - 1) n (suc l) low (λ t more t_low. deep_same (n - 1) n t t_low (omega (arith, low, more)) (omega arith)))

  pub until_from : (l : ℕ) → 0 < l → l < n → 16 * (k l * g l * size_before (Z n) (action_at body l)) ≡ Z n l
  until_from zero some low = absurd (omega (arith, some))
  until_from (suc l) some low = sym (until_at l low)

  -- at the start that of the end is there
  pub begins : (list : List ℕ) (m : ℕ) → m ≡ n → held_at list 0 ≡ held (4 * (k 0 * g 0)) → AtBehind body m (HoldsAt (Z n) list)
  begins list m whole is l low (inl on) = absurd (omega (arith, whole, on, low))
  begins list m whole is l low (inr (inl end)) = subst (HoldsAt (Z n) list) (sym end) is
  begins list m whole is l low (inr (inr head)) = absurd (false≢true (sym (no_heads body loopless l low) ∙ head))

  -- and at the end all are
  pub all_there : (list : List ℕ) (m : ℕ) → m ≤ 1 → AtBehind body m (HoldsAt (Z n) list) → AtAll body (HoldsAt (Z n) list)
  all_there list m few there zero low = there 0 low (inr (inl refl))
  all_there list m few there (suc l) low = there (suc l) low (inl (omega (arith, few)))

-- the size of a next goes by the part's sizes at the labels that follow
pub next_from : (body : Statements) (f : ℕ → ℕ) (l : ℕ) → 0 < l → size_before f (action_at body l) ≡ next_size body f l
next_from body f zero some = absurd (omega (arith, some))
next_from body f (suc l) some = refl
