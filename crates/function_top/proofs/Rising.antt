-- Growth and weight go up with the level.
use Rattle.std.proofs.Common.{◌≡◌, ◌⊎◌, inl, inr, ℕ, zero, suc, ◌+◌, ◌*◌, ◌<◌, ◌≤◌, Bool, true, false, Some, List, [], ◌∷◌, length, refl, sym, ap, subst, arith}
use Rattle.std.proofs.Math.Nat.{le_refl, mul-le-mul, one-le-mul}
use Rattle.linear_cons.specs.declared.row.Row.{Row}
use Rattle.step_meaning.specs.Syntax.{Expression, Statements, number, variable, free, range, truth, negative, negation, pair, divided}
use Rattle.control_flow.specs.Actions.{AtAll, AtNext}
use Rattle.control_flow.specs.Edges.{is_head_by}
use Rattle.control_flow.specs.Growth.{factor_at, growth_of, product_below}
use Rattle.control_flow.specs.Labels.{Action, ends, assigns, passes, tests, action_at, all_labels}
use Rattle.control_flow.specs.Measures.{AreSizes, IsHeavy, IsLight, greatest_below, leaves_asking, leaves_of_test, size_before, size_of_test, weight_by}
use Rattle.control_flow.proofs.Existing.{sizes_in, there_are}
use Rattle.control_flow.proofs.Filling.{all_next, behind_next}
use Rattle.unroll.specs.Building.{left_by}
use Rattle.unroll.specs.Within.{place_by, place_of}
use Rattle.unroll.proofs.Growing.{below_some, growth_more, place_behind, place_within}
use Rattle.unroll.proofs.LevelSizes.{label_size, test_more}

up_or : (k d : ℕ) → k ≤ suc d → (k ≤ d) ⊎ (k ≡ suc d)
up_or zero d less = inl (omega arith)
up_or (suc k) zero less = inr (omega arith)
up_or (suc k) (suc d) less = elim (up_or k d (omega arith)) [
  | inl before ↦ inl (omega (arith, before))
  | inr last ↦ inr (ap suc last)
]

-- what goes up by one level goes up by several
rises : (f : ℕ → ℕ) → ((level : ℕ) → f level ≤ f (suc level)) → (k d : ℕ) → k ≤ d → f k ≤ f d
rises f up k zero less = let same : k ≡ 0 = omega (arith, less) in let is : f k ≡ f 0 = ap f same in omega (arith, is)
rises f up k (suc d) less = elim (up_or k d less) [
  | inl before ↦ let rest = rises f up k d before in let more = up d in omega (arith, rest, more)
  | inr last ↦ let is : f k ≡ f (suc d) = ap f last in omega (arith, is)
]

growth_next : (body : Statements) (level : ℕ) → growth_of body level ≤ growth_of body (suc level)
growth_next body level =
    let count = length (all_labels body) in
    let more = growth_more body level in
    let some = below_some body count in
    let grown : growth_of body level * 1 ≤ growth_of body level * product_below (factor_at body) count = mul-le-mul (le_refl (growth_of body level)) some in
    omega (arith, more, grown)

pub growth_up : (body : Statements) (k d : ℕ) → k ≤ d → growth_of body k ≤ growth_of body d
growth_up body k d less = rises (growth_of body) (growth_next body) k d less

-- ---- sizes

leaves_some : (conjunctions : List (List Row)) → 1 ≤ leaves_asking conjunctions
leaves_some [] = le_refl 1
leaves_some (rows ∷ more) = omega arith

module _ (a b : ℕ) (first : 1 ≤ a) (second : 1 ≤ b) where
  rows_some : (leaves : ℕ) → 1 ≤ leaves → 1 ≤ 2 * (leaves * (a + b + 1))
  rows_some leaves some = let more : 1 ≤ leaves * (a + b + 1) = one-le-mul some (omega arith) in omega (arith, more)

  asked_some : (c : Expression) → 1 ≤ 2 * (leaves_of_test c * (a + b + 1))
  asked_some c = rows_some (leaves_of_test c) (leaves_some _)

  test_some : (c : Expression) → 1 ≤ size_of_test c a b
  test_some free = let more : 1 ≤ a * b = one-le-mul first second in omega (arith, more)
  test_some (number z) = asked_some (number z)
  test_some (variable v) = asked_some (variable v)
  test_some (range lo hi) = asked_some (range lo hi)
  test_some (truth t) = asked_some (truth t)
  test_some (negative e) = asked_some (negative e)
  test_some (negation e) = asked_some (negation e)
  test_some (pair op l r) = asked_some (pair op l r)
  test_some (divided division e b) = asked_some (divided division e b)

before_some : (behind : ℕ → ℕ) (action : Action) → AtNext action (λ l. 1 ≤ behind l) → 1 ≤ size_before behind action
before_some behind ends some = le_refl 1
before_some behind (assigns x e next) some = omega arith
before_some behind (passes next) some = omega arith
before_some behind (tests head c p q) some = test_some (behind p) (behind q) some.0 some.1 c

before_more : (behind other : ℕ → ℕ) (action : Action) → AtNext action (λ l. behind l ≤ other l) → size_before behind action ≤ size_before other action
before_more behind other ends less = le_refl 1
before_more behind other (assigns x e next) less = omega (arith, less)
before_more behind other (passes next) less = omega (arith, less)
before_more behind other (tests head c p q) less = test_more (behind p) (behind q) (other p) (other q) less.0 less.1 c

-- a level more leaves a level more
left_more : (head : Bool) (level left : ℕ) → left_by head level ≡ Some left → left_by head (suc level) ≡ Some (suc left)
left_more true zero left allows = absurd (cc)
left_more true (suc level) left allows = let same : level ≡ left = cc in ap (λ n. Some (suc n)) same
left_more false level left allows = let same : level ≡ left = cc in ap (λ n. Some (suc n)) same

module _ (body : Statements) where
  abbrev count : ℕ
  count = length (all_labels body)

  abbrev is_head : ℕ → Bool
  is_head l = is_head_by (action_at body l)

  -- What holds at a label where it holds at those that follow, of the level that is left, and at the tests of loops of level 0, holds everywhere.
  module _ (P : ℕ → ℕ → Type 0) (stopped : (l : ℕ) → l < count → is_head l ≡ true → P 0 l)
      (moved : (level left l : ℕ) → l < count → left_by (is_head l) level ≡ Some left → AtNext (action_at body l) (P left) → P level l) where
    at_head : (level l : ℕ) → l < count → is_head l ≡ true → ((lower : ℕ) → level ≡ suc lower → AtAll body (P lower)) → P level l
    at_head zero l low head earlier = stopped l low head
    at_head (suc level) l low head earlier =
        moved (suc level) level l low (ap (λ t. left_by t (suc level)) head) (all_next body (P level) l low (earlier level refl))

    module _ (level : ℕ) (earlier : (lower : ℕ) → level ≡ suc lower → AtAll body (P lower)) where
      within : (fuel l : ℕ) → l < count → count < place_of body l + fuel → P level l
      within zero l low enough = let most = place_within body l low in absurd (omega (arith, most, enough))
      within (suc fuel) zero low enough = moved level level zero low refl tt
      within (suc fuel) (suc l) low enough =
          elim (is_head (suc l)) as (λ head. is_head (suc l) ≡ head → P level (suc l)) [
            | true ↦ λ head. at_head level (suc l) low head earlier
            | false ↦ λ plain.
                let own : place_of body (suc l) ≡ suc l = ap (λ t. place_by t count (suc l)) plain in
                moved level level (suc l) low (ap (λ t. left_by t level) plain) (behind_next body (P level) (suc l) low plain
                (λ k below behind. let later = place_behind body (suc (suc l)) k low behind in within fuel k below (omega (arith, own, later, enough))))
          ] refl

    everywhere : (level : ℕ) → AtAll body (P level)
    everywhere zero l low = within zero (λ lower none. absurd (cc)) (suc count) l low (omega arith)
    everywhere (suc level) l low =
        within (suc level) (λ lower same. subst (λ n. AtAll body (P n)) (let one : level ≡ lower = cc in one) (everywhere level)) (suc count) l low (omega arith)

  module _ (sizes : ℕ → ℕ → ℕ) (are : AreSizes body sizes) where
    size_is : (level left l : ℕ) → l < count → left_by (is_head l) level ≡ Some left → sizes level l ≡ size_before (sizes left) (action_at body l)
    size_is level left l low allows = label_size body sizes are l low level left allows (action_at body l) refl

    size_stopped : (l : ℕ) → l < count → is_head l ≡ true → sizes 0 l ≡ 1
    size_stopped l low head = subst (λ n. n ≡ 1) (sym (are 0 l low)) (rw head refl)

    some_sizes : (level : ℕ) → AtAll body (λ l. 1 ≤ sizes level l)
    some_sizes = everywhere (λ level l. 1 ≤ sizes level l)
        (λ l low head. subst (λ n. 1 ≤ n) (sym (size_stopped l low head)) (le_refl 1))
        (λ level left l low allows some. subst (λ n. 1 ≤ n) (sym (size_is level left l low allows)) (before_some (sizes left) (action_at body l) some))

    sizes_next : (level : ℕ) → AtAll body (λ l. sizes level l ≤ sizes (suc level) l)
    sizes_next = everywhere (λ level l. sizes level l ≤ sizes (suc level) l)
        (λ l low head. subst (λ n. n ≤ sizes 1 l) (sym (size_stopped l low head)) (some_sizes 1 l low))
        (λ level left l low allows less.
        let here = size_is level left l low allows in
        let next = size_is (suc level) (suc left) l low (left_more (is_head l) level left allows) in
        let more = before_more (sizes left) (sizes (suc left)) (action_at body l) less in
        omega (arith, here, next, more))

    greatest_more : (f g : ℕ → ℕ) (n : ℕ) → ((l : ℕ) → l < n → f l ≤ g l) → greatest_below f n ≤ greatest_below g n
    greatest_more f g zero less = omega arith
    greatest_more f g (suc n) less =
        let rest = greatest_more f g n (λ l low. less l (omega arith)) in let own = less n (omega arith) in omega (arith, rest, own)

    weight_up : (k d : ℕ) → k ≤ d → weight_by body sizes k ≤ weight_by body sizes d
    weight_up k d less = rises (weight_by body sizes) (λ level. greatest_more (sizes level) (sizes (suc level)) count (sizes_next level)) k d less

-- no level up to a light one is heavy
pub none_heavy : (body : Statements) (k d : ℕ) → k ≤ d → IsLight body d → ¬ IsHeavy body k
none_heavy body k d less light heavy =
    let most = light (sizes_in body) (there_are body) in
    let more = heavy (sizes_in body) (there_are body) in
    let up = weight_up body (sizes_in body) (there_are body) k d less in
    omega (arith, most, more, up)
