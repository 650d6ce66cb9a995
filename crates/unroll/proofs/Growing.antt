-- How the growth of a level goes by that of the level before, and how the places of labels divide it.
use Rattle.std.proofs.Common.{◌≡◌, ◌⊎◌, inl, inr, ⊎_elim, ℕ, zero, suc, ◌+◌, ◌*◌, ◌^◌, ◌<◌, ◌≤◌, Bool, true, false, Some, length, add-one, refl, sym, ap, subst, ◌∙◌, arith}
use Rattle.std.proofs.Math.Nat.{le_refl, mul-le-mul, mul-mul-mul_comm, mul_assoc, mul_comm, one-le-mul, one-le-pow, one-mul, pow-suc, suc-mul}
use Rattle.step_meaning.specs.Syntax.{Statements}
use Rattle.control_flow.specs.Actions.{IsBehind}
use Rattle.control_flow.specs.Edges.{is_head_by}
use Rattle.control_flow.specs.Labels.{Action, ends, assigns, passes, tests, action_at, all_labels}
use Rattle.control_flow.specs.Growth.{factor, factor_at, growth_of, product_below, test_size}
use Rattle.unroll.specs.Building.{left_by}
use Rattle.unroll.specs.Within.{place_by, place_of, steps_of}

module _ (f : ℕ → ℕ) where
  product_powers : (h n : ℕ) → product_below (λ l. f l ^ suc h) n ≡ product_below (λ l. f l ^ h) n * product_below f n
  product_powers h zero = refl
  product_powers h (suc n) =
      ap (λ t. t * f n ^ suc h) (product_powers h n)
      ∙ ap (λ t. product_below (λ l. f l ^ h) n * product_below f n * t) (pow-suc (f n) h)
      ∙ mul-mul-mul_comm (product_below (λ l. f l ^ h) n) (product_below f n) (f n ^ h) (f n)

  module _ (some : (l : ℕ) → 1 ≤ f l) where
    pub product_some : (n : ℕ) → 1 ≤ product_below f n
    product_some zero = le_refl 1
    product_some (suc n) = one-le-mul (product_some n) (some n)

    product_next : (n : ℕ) → product_below f n ≤ product_below f (suc n)
    product_next n = let more : product_below f n * 1 ≤ product_below f n * f n = mul-le-mul (le_refl (product_below f n)) (some n) in omega (arith, more)

    pub product_ordered : (m n : ℕ) → m ≤ n → product_below f m ≤ product_below f n
    product_ordered m zero less = let same : m ≡ 0 = omega (arith, less) in let is : product_below f m ≡ 1 = ap (product_below f) same in omega (arith, is)
    product_ordered m (suc n) less =
        ⊎_elim
        (λ before. let rest = product_ordered m n before in let more = product_next n in omega (arith, rest, more))
        (λ last. let is : product_below f m ≡ product_below f (suc n) = ap (product_below f) last in omega (arith, is)) (before_or m n less)
      where
        before_or : (m n : ℕ) → m ≤ suc n → (m ≤ n) ⊎ (m ≡ suc n)
        before_or zero n less = inl (omega arith)
        before_or (suc m) zero less = inr (omega arith)
        before_or (suc m) (suc n) less = ⊎_elim (λ before. inl (omega (arith, before))) (λ last. inr (ap suc last)) (before_or m n (omega arith))

some_factor : (action : Action) → 1 ≤ factor action
some_factor ends = le_refl 1
some_factor (assigns x e next) = omega arith
some_factor (passes next) = le_refl 1
some_factor (tests head c then_to else_to) = le_refl 1

module _ (body : Statements) where
  abbrev count : ℕ
  count = length (all_labels body)

  abbrev below : ℕ → ℕ
  below n = product_below (factor_at body) n

  some_at : (l : ℕ) → 1 ≤ factor_at body l
  some_at l = some_factor (action_at body l)

  pub below_some : (n : ℕ) → 1 ≤ below n
  below_some n = product_some (factor_at body) some_at n

  pub below_more : (m n : ℕ) → m ≤ n → below m ≤ below n
  below_more m n less = product_ordered (factor_at body) some_at m n less

  -- a level more makes the growth as many times as large as the product of all factors
  pub growth_more : (level : ℕ) → growth_of body (suc level) ≡ growth_of body level * below count
  growth_more level =
      let one : suc level + 1 ≡ suc (level + 1) = omega arith in
      ap (λ h. test_size body * product_below (λ l. factor_at body l ^ h) count) one
      ∙ ap (λ t. test_size body * t) (product_powers (factor_at body) (level + 1) count)
      ∙ sym (mul_assoc (test_size body) (product_below (λ l. factor_at body l ^ (level + 1)) count) (below count))

  -- the numbers of tests, times all factors, are within the growth
  pub growth_least : (level : ℕ) → test_size body * below count ≤ growth_of body level
  growth_least level =
      let others : ℕ = product_below (λ l. factor_at body l ^ level) count in
      let some : 1 ≤ others = product_some (λ l. factor_at body l ^ level) (λ l. one-le-pow level (factor_at body l) (some_at l)) count in
      let one : level + 1 ≡ suc level = omega arith in
      let is : product_below (λ l. factor_at body l ^ (level + 1)) count ≡ others * below count =
      ap (λ h. product_below (λ l. factor_at body l ^ h) count) one ∙ product_powers (factor_at body) level count in
      let least : 1 * below count ≤ others * below count = mul-le-mul some (le_refl (below count)) in
      let whole : below count ≤ product_below (λ l. factor_at body l ^ (level + 1)) count = omega (arith, is, least) in
      mul-le-mul (le_refl (test_size body)) whole

  -- ---- places

  place_least : (head : Bool) (n m l : ℕ) → n ≤ m → (n ≤ l) ⊎ (head ≡ true) → n ≤ place_by head m l
  place_least true n m l enough known = enough
  place_least false n m zero enough known = enough
  place_least false n m (suc l) enough (inl less) = less
  place_least false n m (suc l) enough (inr is) = absurd (cc)

  place_most : (head : Bool) (m l : ℕ) → l < m → place_by head m l ≤ m
  place_most true m l low = le_refl m
  place_most false m zero low = le_refl m
  place_most false m (suc l) low = omega (arith, low)

  pub place_within : (l : ℕ) → l < count → place_of body l ≤ count
  place_within l low = place_most (is_head_by (action_at body l)) count l low

  -- what follows at least so far on, or is done first, has its place as far on
  pub place_behind : (n l : ℕ) → n ≤ count → IsBehind body n l → n ≤ place_of body l
  place_behind n l enough (inl on) = place_least (is_head_by (action_at body l)) n count l enough (inl on)
  place_behind n l enough (inr (inl nought)) = first_least n l enough nought
    where
      first_by : (head : Bool) (n m : ℕ) → n ≤ m → n ≤ place_by head m 0
      first_by true n m enough = enough
      first_by false n m enough = enough

      first_least : (n l : ℕ) → n ≤ count → l ≡ 0 → n ≤ place_of body l
      first_least n l enough nought =
          let own : n ≤ place_of body 0 = first_by (is_head_by (action_at body 0)) n count enough in
          subst (λ k. n ≤ place_of body k) (sym nought) own
  place_behind n l enough (inr (inr head)) = place_least (is_head_by (action_at body l)) n count l enough (inr head)

  -- ---- a step from the label l to what follows

  abbrev pub FollowsFrom : ℕ → ℕ → Type 0
  FollowsFrom l k = is_head_by (action_at body l) ≡ false → suc l ≤ place_of body k

  own_place : (head : Bool) (l : ℕ) → 0 < l → head ≡ false → place_by head count l ≡ l
  own_place true l some is = absurd (cc)
  own_place false zero some is = absurd (omega arith)
  own_place false (suc l) some is = refl

  head_place : (l : ℕ) → is_head_by (action_at body l) ≡ true → place_of body l ≡ count
  head_place l is = ap (λ t. place_by t count l) is

  head_factor : (action : Action) → is_head_by action ≡ true → factor action ≡ 1
  head_factor ends is = absurd (cc)
  head_factor (assigns x e next) is = absurd (cc)
  head_factor (passes next) is = absurd (cc)
  head_factor (tests head c then_to else_to) is = refl

  module _ (l k : ℕ) (some : 0 < l) (low : l < count) (inside : k < count) (on : FollowsFrom l k) where
    turned_by : (head : Bool) → is_head_by (action_at body l) ≡ head → (limit left : ℕ) → left_by head limit ≡ Some left → (size : ℕ)
        → size * below (place_of body k) ≤ growth_of body left → size * (factor_at body l * below (place_of body l)) ≤ growth_of body limit
    turned_by true is zero left allows size small = absurd (cc)
    turned_by true is (suc level) left allows size small =
        let same : level ≡ left = cc in
        let one : factor_at body l * below (place_of body l) ≡ below count =
        ap (λ t. t * below (place_of body l)) (head_factor (action_at body l) is) ∙ one-mul (below (place_of body l)) ∙ ap below (head_place l is) in
        let least : size * 1 ≤ size * below (place_of body k) = mul-le-mul (le_refl size) (below_some (place_of body k)) in
        let own : size ≤ growth_of body level = subst (λ h. size ≤ growth_of body h) (sym same) (omega (arith, least, small)) in
        let whole : size * below count ≤ growth_of body level * below count = mul-le-mul own (le_refl (below count)) in
        let more = growth_more level in
        let is : size * (factor_at body l * below (place_of body l)) ≡ size * below count = ap (λ t. size * t) one in
        omega (arith, whole, more, is)
    turned_by false is limit left allows size small =
        let same : limit ≡ left = cc in
        let place : place_of body l ≡ l = own_place (is_head_by (action_at body l)) l some is in
        let here : factor_at body l * below (place_of body l) ≡ below (suc l) = ap (λ n. factor_at body l * below n) place ∙ mul_comm (factor_at body l) (below l) in
        let further : size * below (suc l) ≤ size * below (place_of body k) =
        mul-le-mul (le_refl size) (below_more (suc l) (place_of body k) (on is)) in
        let whole : size * (factor_at body l * below (place_of body l)) ≡ size * below (suc l) = ap (λ t. size * t) here in
        let grown : size * below (place_of body k) ≤ growth_of body limit = subst (λ h. size * below (place_of body k) ≤ growth_of body h) (sym same) small in
        omega (arith, whole, further, grown)

    -- rows moved over the label's assignment are within the growth
    pub turned_rows : (limit left : ℕ) → left_by (is_head_by (action_at body l)) limit ≡ Some left → (size : ℕ)
        → size * below (place_of body k) ≤ growth_of body left → size * (factor_at body l * below (place_of body l)) ≤ growth_of body limit
    turned_rows limit left allows size small = turned_by (is_head_by (action_at body l)) refl limit left allows size small

    steps_by : (head : Bool) → is_head_by (action_at body l) ≡ head → (limit left : ℕ) → left_by head limit ≡ Some left → suc (steps_of body left k) ≤ steps_of body limit l
    steps_by true is zero left allows = absurd (cc)
    steps_by true is (suc level) left allows =
        let same : level ≡ left = cc in
        let place = head_place l is in
        let most = place_within k inside in
        let product : (suc level + 1) * (count + 1) ≡ (level + 1) * (count + 1) + (count + 1) = ap (λ n. n * (count + 1)) (add-one (suc level)) ∙ suc-mul (suc level) (count + 1) ∙ ap (λ n. n * (count + 1) + (count + 1)) (sym (add-one level)) in
        subst (λ h. suc (steps_of body h k) ≤ steps_of body (suc level) l) same (omega (arith, place, most, product, some))
    steps_by false is limit left allows =
        let same : limit ≡ left = cc in
        let place : place_of body l ≡ l = own_place (is_head_by (action_at body l)) l some is in
        let most = place_within k inside in
        let further = on is in
        let product : (limit + 1) * (count + 1) ≡ limit * (count + 1) + (count + 1) = ap (λ n. n * (count + 1)) (add-one limit) ∙ suc-mul limit (count + 1) in
        subst (λ h. suc (steps_of body h k) ≤ steps_of body limit l) same (omega (arith, place, most, further, product))

    -- a step more is within the label's steps
    pub turned_steps : (limit left : ℕ) → left_by (is_head_by (action_at body l)) limit ≡ Some left → suc (steps_of body left k) ≤ steps_of body limit l
    turned_steps limit left allows = steps_by (is_head_by (action_at body l)) refl limit left allows
