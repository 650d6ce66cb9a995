-- The size at a label by those behind it, and levels of a weight above 65,536.
use Rattle.std.proofs.Common.{◌≡◌, ◌⊎◌, inl, inr, ⊎_elim, ℕ, zero, suc, ◌+◌, ◌*◌, ◌<◌, ◌≤◌, Bool, true, false, cond, Some, length, refl, sym, ap, subst, ◌∙◌, arith}
use Rattle.std.proofs.Math.Nat.{le_refl, mul-le-mul}
use Rattle.step_meaning.specs.Syntax.{Expression, Statements, number, variable, free, range, truth, negative, negation, pair, divided}
use Rattle.control_flow.specs.Edges.{is_head_by}
use Rattle.control_flow.specs.Labels.{Action, action_at, all_labels}
use Rattle.unroll.specs.Building.{left_by}
use Rattle.control_flow.specs.Measures.{AreSizes, IsHeavy, IsLight, greatest_below, leaves_of_test, size_before, size_by, size_of_test}

module _ (sizes : ℕ → ℕ → ℕ) (action : Action) where
  size_left : (head : Bool) → is_head_by action ≡ head → (limit left : ℕ) → left_by head limit ≡ Some left → size_by sizes limit action ≡ size_before (sizes left) action
  size_left true is zero left allows = absurd (cc)
  size_left true is (suc level) left allows =
      let same : level ≡ left = cc in ap (λ t. size_before (sizes (cond t level (suc level))) action) is ∙ ap (λ n. size_before (sizes n) action) same
  size_left false is zero left allows =
      let same : ◌≡◌ {A = ℕ} 0 left = cc in ap (λ t. cond t 1 (size_before (sizes zero) action)) is ∙ ap (λ n. size_before (sizes n) action) same
  size_left false is (suc level) left allows =
      let same : suc level ≡ left = cc in ap (λ t. size_before (sizes (cond t level (suc level))) action) is ∙ ap (λ n. size_before (sizes n) action) same

pub label_size : (body : Statements) (sizes : ℕ → ℕ → ℕ) → AreSizes body sizes → (l : ℕ) → l < length (all_labels body) → (limit left : ℕ)
    → left_by (is_head_by (action_at body l)) limit ≡ Some left → (action : Action) → action ≡ action_at body l → sizes limit l ≡ size_before (sizes left) action
label_size body sizes are l low limit left allows action is =
    are limit l low ∙ size_left sizes (action_at body l) (is_head_by (action_at body l)) refl limit left allows ∙ ap (size_before (sizes left)) (sym is)

-- larger trees behind a test make a larger one
module _ (a b x y : ℕ) (first : a ≤ x) (second : b ≤ y) where
  rows_more : (leaves : ℕ) → 2 * (leaves * (a + b + 1)) ≤ 2 * (leaves * (x + y + 1))
  rows_more leaves = let more : leaves * (a + b + 1) ≤ leaves * (x + y + 1) = mul-le-mul (le_refl leaves) (omega (arith, first, second)) in omega (arith, more)

  pub test_more : (c : Expression) → size_of_test c a b ≤ size_of_test c x y
  test_more free = let more : a * b ≤ x * y = mul-le-mul first second in omega (arith, more)
  test_more (number z) = rows_more (leaves_of_test (number z))
  test_more (variable v) = rows_more (leaves_of_test (variable v))
  test_more (range lo hi) = rows_more (leaves_of_test (range lo hi))
  test_more (truth t) = rows_more (leaves_of_test (truth t))
  test_more (negative e) = rows_more (leaves_of_test (negative e))
  test_more (negation e) = rows_more (leaves_of_test (negation e))
  test_more (pair op l r) = rows_more (leaves_of_test (pair op l r))
  test_more (divided division e z) = rows_more (leaves_of_test (divided division e z))

before_or : (l n : ℕ) → l < suc n → (l < n) ⊎ (l ≡ n)
before_or zero zero low = inr refl
before_or zero (suc n) low = inl (omega arith)
before_or (suc l) zero low = absurd (omega arith)
before_or (suc l) (suc n) low = ⊎_elim (λ before. inl (omega arith)) (λ last. inr (omega arith)) (before_or l n (omega arith))

pub at_most_greatest : (f : ℕ → ℕ) (n l : ℕ) → l < n → f l ≤ greatest_below f n
at_most_greatest f zero l low = absurd (omega arith)
at_most_greatest f (suc n) l low =
    ⊎_elim (λ before. let most = at_most_greatest f n l before in omega (arith, most)) (λ last. let same : f l ≡ f n = ap f last in omega (arith, same)) (before_or l n low)

-- one label is enough
pub heavy_at : (body : Statements) (level l : ℕ) → l < length (all_labels body) → ((sizes : ℕ → ℕ → ℕ) → AreSizes body sizes → 65536 < sizes level l) → IsHeavy body level
heavy_at body level l low more sizes are =
    let most = at_most_greatest (sizes level) (length (all_labels body)) l low in let own = more sizes are in omega (arith, most, own)

pub light_up : (body : Statements) (made : ℕ) → ((level : ℕ) → level ≤ made → IsLight body level) → IsLight body (suc made) → (level : ℕ) → level ≤ suc made → IsLight body level
light_up body made below here level few =
    ⊎_elim {C = IsLight body level} (λ before. below level (omega (arith, before))) (λ last. subst (IsLight body) (sym last) here)
    (before_or level (suc made) (omega (arith, few)))
