-- How large the numbers of the tree of a label are, by those of the trees that follow, and that they fit where the growth is at most 2^100.
use Rattle.std.proofs.Common.{◌≡◌, inl, inr, ⊎_elim, ℕ, suc, ◌+◌, ◌-◌, ◌*◌, ◌^◌, ◌<◌, ◌≤◌, Bool, true, false, List, Some, length, refl, sym, ap, subst, ◌∙◌, arith}
use Rattle.std.proofs.lemmas.Bool.{cases_lt}
use Rattle.std.proofs.Math.Nat.{le_refl, mul-le-mul, one-mul}
use Rattle.step_meaning.specs.Countdown.{form_of}
use Rattle.linear_forms.specs.Spreading.{spread_of}
use Rattle.linear_forms.proofs.Dual.{spread_dual}
use Rattle.decision_tree.specs.Plans.{Plan}
use Rattle.decision_tree.specs.declared.affine_rank.AffineRank.{AffineRank}
use Rattle.step_meaning.specs.AffineExpressions.{IsAffineTest}
use Rattle.linear_cons.specs.Sizes.{total_size}
use Rattle.step_meaning.specs.Syntax.{Expression, Statements, free}
use Rattle.control_flow.specs.Edges.{is_head_by}
use Rattle.control_flow.specs.Labels.{Action, ends, assigns, passes, tests, action_at, all_labels}
use Rattle.control_flow.specs.Actions.{AtNext}
use Rattle.unroll.specs.Building.{left_by}
use Rattle.control_flow.specs.Growth.{factor, factor_at, greatest_of_conjunctions, growth_of, product_below, row_size, test_size}
use Rattle.backward_transfer.specs.AffineShapes.{tree_at}
use Rattle.control_flow.specs.Measures.{anywhere}
use Rattle.unroll.specs.Plain.{IsFittingTest}
use Rattle.unroll.specs.Within.{AreWithin, IsNarrow, IsWithin, TellsNumbers, place_of, steps_of}
use Rattle.unroll.proofs.DualAsks.{IsAsked}
use Rattle.control_flow.proofs.Filling.{all_next, behind_next}
use Rattle.unroll.proofs.Growing.{FollowsFrom, below_more, below_some, growth_least, place_behind, place_within, turned_rows, turned_steps}
use Rattle.unroll.proofs.Lifting.{plain_test}
use Rattle.unroll.proofs.SpreadRows.{spread_long}
use Rattle.unroll.proofs.WithinRows.{conjunctions_within, test_least}
use Rattle.unroll.proofs.WithinTrees.{within_more}

-- ---- what follows

at_any : (P : ℕ → Type 0) → ((k : ℕ) → P k) → (action : Action) → AtNext action P
at_any P holds ends = tt
at_any P holds (assigns x e next) = holds next
at_any P holds (passes next) = holds next
at_any P holds (tests head c p q) = (holds p, holds q)

pub at_more : (P Q : ℕ → Type 0) → ((k : ℕ) → P k → Q k) → (action : Action) → AtNext action P → AtNext action Q
at_more P Q more ends next = tt
at_more P Q more (assigns x e k) next = more k next
at_more P Q more (passes k) next = more k next
at_more P Q more (tests head c p q) next = (more p next.0, more q next.1)

at_both : (P Q R : ℕ → Type 0) → ((k : ℕ) → P k → Q k → R k) → (action : Action) → AtNext action P → AtNext action Q → AtNext action R
at_both P Q R more ends first second = tt
at_both P Q R more (assigns x e k) first second = more k first second
at_both P Q R more (passes k) first second = more k first second
at_both P Q R more (tests head c p q) first second = (more p first.0 second.0, more q first.1 second.1)

-- ---- a test: a whole `?`, or one whose own rows alone are asked

pub asked_within : (c : Expression) → IsFittingTest c → (k most : ℕ) → greatest_of_conjunctions (spread_of anywhere c true) * k ≤ most
    → IsAsked (IsWithin k most) (spread_of anywhere c true) (spread_of anywhere c false)
asked_within c fits k most small =
    ⊎_elim
    (λ (is : c ≡ free). inl (ap (λ e. spread_of anywhere e true) is, ap (λ e. spread_of anywhere e false) is))
    (λ (affine : IsAffineTest c). inr (record {
      long = spread_long anywhere c true;
      dual = spread_dual fits.vars anywhere c fits.sorted affine fits.fit true;
      rows = conjunctions_within k most (greatest_of_conjunctions (spread_of anywhere c true)) small (spread_of anywhere c true) (le_refl (greatest_of_conjunctions (spread_of anywhere c true)));
    })) (plain_test c fits.plain)

-- of a level and a program whose numbers fit 32 bits the steps are few
pub steps_few : (body : Statements) (level label : ℕ) → level < 2 ^ 32 → length (all_labels body) < 2 ^ 32 → steps_of body level label ≤ 2 ^ 100
steps_few body level label small few =
    let one : level + 1 ≤ 2 ^ 32 = omega (arith, small) in
    let other : length (all_labels body) + 1 ≤ 2 ^ 32 = omega (arith, few) in
    let most : (level + 1) * (length (all_labels body) + 1) ≤ 2 ^ 32 * 2 ^ 32 = mul-le-mul one other in
    omega (arith, most)

-- ---- the tree of a label

module _ (body : Statements) (l : ℕ) (some : 0 < l) (low : l < length (all_labels body)) where
  abbrev count : ℕ
  count = length (all_labels body)

  abbrev times : ℕ
  times = product_below (factor_at body) (place_of body l)

  follows_by : (head : Bool) → is_head_by (action_at body l) ≡ head → AtNext (action_at body l) (FollowsFrom body l)
  follows_by true is = at_any (FollowsFrom body l) (λ k plain. absurd (cc)) (action_at body l)
  follows_by false is =
      at_more (λ k. suc l ≤ place_of body k) (FollowsFrom body l) (λ k on plain. on) (action_at body l)
      (behind_next body (λ k. suc l ≤ place_of body k) l low is (λ k below behind. place_behind body (suc l) k (omega (arith, low)) behind))

  follows : AtNext (action_at body l) (FollowsFrom body l)
  follows = follows_by (is_head_by (action_at body l)) refl

  inside : AtNext (action_at body l) (λ k. k < count)
  inside = all_next body (λ k. k < count) l low (λ k below. below)

  -- the numbers in the rows of its test are within the growth
  asked_rows : (limit : ℕ) (head : Bool) (c : Expression) (p q : ℕ) → tests head c p q ≡ action_at body l
      → greatest_of_conjunctions (spread_of anywhere c true) * times ≤ growth_of body limit
  asked_rows limit head c p q is =
      let own : row_size (action_at body l) ≤ test_size body = test_least body l low in
      let same : row_size (action_at body l) ≡ greatest_of_conjunctions (spread_of anywhere c true) = ap row_size (sym is) in
      let place = place_within body l low in
      let least = growth_least body limit in
      let enough : greatest_of_conjunctions (spread_of anywhere c true) * times ≤ test_size body * product_below (factor_at body) count =
      mul-le-mul (omega (arith, own, same)) (below_more body (place_of body l) count place) in
      omega (arith, enough, least)

  times_some : 1 ≤ times
  times_some = below_some body (place_of body l)

  module _ (limit left : ℕ) (allows : left_by (is_head_by (action_at body l)) limit ≡ Some left) where
    -- the steps behind the label
    abbrev behind_steps : ℕ
    behind_steps = steps_of body limit l - 1

    abbrev IsBehindRow : ℕ → Type 0
    IsBehindRow k = ((size : ℕ) → size * product_below (factor_at body) (place_of body k) ≤ growth_of body left → size * (factor_at body l * times) ≤ growth_of body limit)
        × (suc (steps_of body left k) ≤ steps_of body limit l)

    behind_rows : AtNext (action_at body l) IsBehindRow
    behind_rows =
        at_both (FollowsFrom body l) (λ k. k < count) IsBehindRow
        (λ k on below. (turned_rows body l k some low below on limit left allows, turned_steps body l k some low below on limit left allows))
        (action_at body l) follows inside

    -- the tree of a label that follows
    module _ (trees : List (Plan AffineRank)) (behind : AtNext (action_at body l) (λ k. TellsNumbers left body k (tree_at trees k))) where
      abbrev IsBehindTree : ℕ → Type 0
      IsBehindTree k = AreWithin (factor_at body l * times) (growth_of body limit) behind_steps (tree_at trees k) × (suc behind_steps ≡ steps_of body limit l)

      behind_trees : AtNext (action_at body l) IsBehindTree
      behind_trees =
          at_both IsBehindRow (λ k. TellsNumbers left body k (tree_at trees k)) IsBehindTree
          (λ k known tells.
          let more = known.1 in (
            within_more (product_below (factor_at body) (place_of body k)) (factor_at body l * times) (growth_of body left) (growth_of body limit) (steps_of body left k)
                behind_steps known.0 (omega (arith, more)) (tree_at trees k) tells.within,
            omega (arith, more),
          )) (action_at body l) behind_rows behind

      behind_as : (action : Action) → action ≡ action_at body l → AtNext action IsBehindTree
      behind_as action is = subst (λ a. AtNext a IsBehindTree) (sym is) behind_trees

      factor_as : (action : Action) → action ≡ action_at body l → factor_at body l ≡ factor action
      factor_as action is = ap factor (sym is)

      single : (plan : Plan AffineRank) → factor_at body l ≡ 1 → AreWithin (factor_at body l * times) (growth_of body limit) behind_steps plan
          → AreWithin times (growth_of body limit) behind_steps plan
      single plan one within =
          let same : factor_at body l * times ≡ times = ap (λ n. n * times) one ∙ one-mul times in
          subst (λ n. AreWithin n (growth_of body limit) behind_steps plan) same within

      assigned_behind : (x : ℕ) (e : Expression) (next : ℕ) → assigns x e next ≡ action_at body l
          → AreWithin ((1 + total_size (form_of e)) * times) (growth_of body limit) behind_steps (tree_at trees next)
      assigned_behind x e next is =
          subst (λ n. AreWithin (n * times) (growth_of body limit) behind_steps (tree_at trees next)) (factor_as (assigns x e next) is) (behind_as (assigns x e next) is).0

      passed_behind : (next : ℕ) → passes next ≡ action_at body l → AreWithin times (growth_of body limit) behind_steps (tree_at trees next)
      passed_behind next is = single (tree_at trees next) (factor_as (passes next) is) (behind_as (passes next) is).0

      tested_behind : (head : Bool) (c : Expression) (p q : ℕ) → tests head c p q ≡ action_at body l
          → AreWithin times (growth_of body limit) behind_steps (tree_at trees p) × AreWithin times (growth_of body limit) behind_steps (tree_at trees q)
      tested_behind head c p q is =
          let two = behind_as (tests head c p q) is in
          let one = factor_as (tests head c p q) is in
          (single (tree_at trees p) one two.0.0, single (tree_at trees q) one two.1.0)

      -- a tree a step before is that of the label
      made_by : (made : Plan AffineRank) → suc behind_steps ≡ steps_of body limit l → AreWithin times (growth_of body limit) (suc behind_steps) made → TellsNumbers limit body l made
      made_by made same within = record { within = subst (λ n. AreWithin times (growth_of body limit) n made) same within }

      -- the numbers of a tree made are those of the label, where they are kept by the step
      module _ (made : Plan AffineRank) where
        pub assigned_numbers : (x : ℕ) (e : Expression) (next : ℕ) → assigns x e next ≡ action_at body l
            → ((k most steps : ℕ) → AreWithin ((1 + total_size (form_of e)) * k) most steps (tree_at trees next) → AreWithin k most (suc steps) made) → TellsNumbers limit body l made
        assigned_numbers x e next is keeps =
            made_by made (behind_as (assigns x e next) is).1 (keeps times (growth_of body limit) behind_steps (assigned_behind x e next is))

        pub passed_numbers : (next : ℕ) → passes next ≡ action_at body l
            → ((k most steps : ℕ) → AreWithin k most steps (tree_at trees next) → AreWithin k most (suc steps) made) → TellsNumbers limit body l made
        passed_numbers next is keeps = made_by made (behind_as (passes next) is).1 (keeps times (growth_of body limit) behind_steps (passed_behind next is))

        pub tested_numbers : (head : Bool) (c : Expression) (p q : ℕ) → tests head c p q ≡ action_at body l
            → ((k most steps : ℕ) → greatest_of_conjunctions (spread_of anywhere c true) * k ≤ most → AreWithin k most steps (tree_at trees p)
            → AreWithin k most steps (tree_at trees q) → AreWithin k most (suc steps) made) → TellsNumbers limit body l made
        tested_numbers head c p q is keeps =
            let two = tested_behind head c p q is in
            made_by made (behind_as (tests head c p q) is).0.1 (keeps times (growth_of body limit) behind_steps (asked_rows limit head c p q is) two.0 two.1)

      -- what doesn't fit is above the growth
      module _ (short : limit < 2 ^ 32) (few : count < 2 ^ 32) where
        never_narrow : (IsNarrow times (growth_of body limit) behind_steps → ⊥) → 2 ^ 100 < growth_of body limit
        never_narrow never =
            ⊎_elim (λ more. more)
            (λ (most : growth_of body limit ≤ 2 ^ 100).
            let steps = steps_few body limit l short few in
            absurd (never (record { some = times_some; small = most; few = omega (arith, steps) })))
            (cases_lt (2 ^ 100) (growth_of body limit))

        pub assigned_wide : (x : ℕ) (e : Expression) (next : ℕ) → assigns x e next ≡ action_at body l
            → ((k most steps : ℕ) → IsNarrow k most steps → AreWithin ((1 + total_size (form_of e)) * k) most steps (tree_at trees next) → ⊥) → 2 ^ 100 < growth_of body limit
        assigned_wide x e next is never = never_narrow (λ narrow. never times (growth_of body limit) behind_steps narrow (assigned_behind x e next is))

        pub passed_wide : (next : ℕ) → passes next ≡ action_at body l
            → ((k most steps : ℕ) → IsNarrow k most steps → AreWithin k most steps (tree_at trees next) → ⊥) → 2 ^ 100 < growth_of body limit
        passed_wide next is never = never_narrow (λ narrow. never times (growth_of body limit) behind_steps narrow (passed_behind next is))

        pub tested_wide : (head : Bool) (c : Expression) (p q : ℕ) → tests head c p q ≡ action_at body l
            → ((k most steps : ℕ) → IsNarrow k most steps → greatest_of_conjunctions (spread_of anywhere c true) * k ≤ most → AreWithin k most steps (tree_at trees p)
            → AreWithin k most steps (tree_at trees q) → ⊥) → 2 ^ 100 < growth_of body limit
        tested_wide head c p q is never =
            let two = tested_behind head c p q is in
            never_narrow (λ narrow. never times (growth_of body limit) behind_steps narrow (asked_rows limit head c p q is) two.0 two.1)
