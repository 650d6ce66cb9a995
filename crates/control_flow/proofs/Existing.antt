-- There are sizes that keep to the rules, and only one at each level and label.
use Rattle.std.proofs.Common.{◌≡◌, inl, inr, ℕ, zero, suc, ◌+◌, ◌*◌, ◌-◌, ◌<◌, ◌≤◌, Bool, true, false, length, refl, sym, ap, ◌∙◌, arith}
use Rattle.step_meaning.specs.Syntax.{Statements}
use Rattle.control_flow.specs.Actions.{IsBehind, IsDoneFirst, AtNext}
use Rattle.control_flow.specs.Edges.{is_head_by}
use Rattle.control_flow.specs.Labels.{Action, ends, assigns, passes, tests, action_at, all_labels}
use Rattle.control_flow.specs.Measures.{AreSizes, size_before, size_by, size_of_test}
use Rattle.std.proofs.Math.Nat.{suc-mul}
use Rattle.control_flow.proofs.Filling.{all_next, behind_next}

-- sizes that agree at the labels that follow agree here
same_before : (behind other : ℕ → ℕ) (action : Action) → AtNext action (λ l. behind l ≡ other l) → size_before behind action ≡ size_before other action
same_before behind other ends same = refl
same_before behind other (assigns x e next) same = ap (λ t. t + 1) same
same_before behind other (passes next) same = ap (λ t. t + 1) same
same_before behind other (tests head c p q) same = ap (λ t. size_of_test c t (behind q)) same.0 ∙ ap (size_of_test c (other p)) same.1

module _ (body : Statements) where
  abbrev pub count : ℕ
  count = length (all_labels body)

  -- how many labels are gone through at most, within a level
  abbrev pub turns : Bool → ℕ → ℕ
  turns true l = 1
  turns false zero = 1
  turns false (suc l) = count + 1 - suc l

  abbrev pub bound : ℕ → ℕ → ℕ
  bound level l = level * (count + 2) + turns (is_head_by (action_at body l)) l

  abbrev pub size_in : ℕ → ℕ → ℕ → ℕ
  size_in zero level l = 0
  size_in (suc fuel) level l = size_by (size_in fuel) level (action_at body l)

  turns_some : (head : Bool) (l : ℕ) → l < count → 1 ≤ turns head l
  turns_some true l low = omega arith
  turns_some false zero low = omega arith
  turns_some false (suc l) low = omega arith

  turns_most : (head : Bool) (l : ℕ) → l < count → turns head l ≤ count + 1
  turns_most true l low = omega arith
  turns_most false zero low = omega arith
  turns_most false (suc l) low = omega arith

  first_turns : (l : ℕ) → IsDoneFirst body l → turns (is_head_by (action_at body l)) l ≡ 1
  first_turns zero known = refl
  first_turns (suc l) (inl nought) = absurd (omega arith)
  first_turns (suc l) (inr head) = ap (λ t. turns t (suc l)) head

  behind_turns : (head : Bool) (l k : ℕ) → suc l ≤ k → k < count → turns head k < count + 1 - l
  behind_turns true l k on low = omega arith
  behind_turns false l zero on low = absurd (omega arith)
  behind_turns false l (suc k) on low = omega arith

  next_turns : (l k : ℕ) → l < count → k < count → IsBehind body (suc l) k → turns (is_head_by (action_at body k)) k < count + 1 - l
  next_turns l k low below (inl on) = behind_turns (is_head_by (action_at body k)) l k on below
  next_turns l k low below (inr known) = let one = first_turns k known in omega arith

  -- a level and a label come before another level and label where the bound is less
  abbrev Before : ℕ → ℕ → (ℕ → ℕ → Type 0) → Type 0
  Before level l P = (other k : ℕ) → k < count → bound other k < bound level l → P other k

  later_turns : (level l k : ℕ) → k < count → turns (is_head_by (action_at body l)) l ≡ 1 → bound level k < bound (suc level) l
  later_turns level l k below one =
      let most = turns_most (is_head_by (action_at body k)) k below in
      let product = suc-mul level (count + 2) in
      omega (arith, most, product, one)

  here_turns : (level l k : ℕ) → suc l < count → k < count → is_head_by (action_at body (suc l)) ≡ false → IsBehind body (suc (suc l)) k → bound level k < bound level (suc l)
  here_turns level l k low below plain behind =
      let less = next_turns (suc l) k low below behind in
      let own : turns (is_head_by (action_at body (suc l))) (suc l) ≡ count + 1 - suc l = ap (λ t. turns t (suc l)) plain in
      omega (arith, less, own)

  module _ (first second : ℕ → ℕ → ℕ) where
    agree_at : (level l : ℕ) → suc l < count → Before level (suc l) (λ other k. first other k ≡ second other k) → (head : Bool) → is_head_by (action_at body (suc l)) ≡ head
        → size_by first level (action_at body (suc l)) ≡ size_by second level (action_at body (suc l))
    agree_at zero l low agree true head = rw head refl
    agree_at zero l low agree false plain =
        rw plain (same_before (first zero) (second zero) (action_at body (suc l))
        (behind_next body (λ k. first zero k ≡ second zero k) (suc l) low plain (λ k below behind. agree zero k below (here_turns zero l k low below plain behind))))
    agree_at (suc level) l low agree true head =
        rw head (same_before (first level) (second level) (action_at body (suc l))
        (all_next body (λ k. first level k ≡ second level k) (suc l) low (λ k below. agree level k below (later_turns level (suc l) k below (ap (λ t. turns t (suc l)) head)))))
    agree_at (suc level) l low agree false plain =
        rw plain (same_before (first (suc level)) (second (suc level)) (action_at body (suc l))
        (behind_next body (λ k. first (suc level) k ≡ second (suc level) k) (suc l) low plain (λ k below behind. agree (suc level) k below (here_turns (suc level) l k low below plain behind))))

    agree_by : (level l : ℕ) → l < count → Before level l (λ other k. first other k ≡ second other k) → size_by first level (action_at body l) ≡ size_by second level (action_at body l)
    agree_by zero zero low agree = refl
    agree_by (suc level) zero low agree = refl
    agree_by level (suc l) low agree = agree_at level l low agree (is_head_by (action_at body (suc l))) refl

  bound_some : (level l : ℕ) → l < count → 1 ≤ bound level l
  bound_some level l low = let one = turns_some (is_head_by (action_at body l)) l low in omega arith

  same_in : (fuel other level l : ℕ) → l < count → bound level l ≤ fuel → bound level l ≤ other → size_in fuel level l ≡ size_in other level l
  same_in zero other level l low enough also = let one = bound_some level l low in absurd (omega arith)
  same_in (suc fuel) zero level l low enough also = let one = bound_some level l low in absurd (omega arith)
  same_in (suc fuel) (suc other) level l low enough also =
      agree_by (size_in fuel) (size_in other) level l low (λ k j below less. same_in fuel other k j below (omega (arith, less, enough)) (omega (arith, less, also)))

  abbrev pub sizes_in : ℕ → ℕ → ℕ
  sizes_in level l = size_in (bound level l) level l

  made_sizes : (level l fuel : ℕ) → l < count → bound level l ≡ suc fuel → size_in (suc fuel) level l ≡ size_by sizes_in level (action_at body l)
  made_sizes level l fuel low is =
      agree_by (size_in fuel) sizes_in level l low (λ k j below less. same_in fuel (bound k j) k j below (omega (arith, less, is)) (omega arith))

  pub there_are : AreSizes body sizes_in
  there_are level l low = at (bound level l) refl
    where
      at : (n : ℕ) → bound level l ≡ n → size_in n level l ≡ size_by sizes_in level (action_at body l)
      at zero is = let one = bound_some level l low in absurd (omega (arith, one, is))
      at (suc fuel) is = made_sizes level l fuel low is

  only_within : (first second : ℕ → ℕ → ℕ) → AreSizes body first → AreSizes body second → (fuel level l : ℕ) → l < count → bound level l ≤ fuel → first level l ≡ second level l
  only_within first second one two zero level l low enough = let some = bound_some level l low in absurd (omega arith)
  only_within first second one two (suc fuel) level l low enough =
      one level l low ∙ agree_by first second level l low (λ k j below less. only_within first second one two fuel k j below (omega (arith, less, enough))) ∙ sym (two level l low)

  pub only_ones : (first second : ℕ → ℕ → ℕ) → AreSizes body first → AreSizes body second → (level l : ℕ) → l < count → first level l ≡ second level l
  only_ones first second one two level l low = only_within first second one two (bound level l) level l low (omega arith)
