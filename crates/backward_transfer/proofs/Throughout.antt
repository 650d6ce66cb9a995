-- At which leaf a store stands before the assignment of a value in a range.
use Rattle.std.proofs.Common.{◌≡◌, ◌↔◌, ◌⊎◌, inl, inr, ℕ, ◌<◌, ℤ, pos, ◌≤ℤ◌, ◌<ℤ◌, ◌+ℤ◌, ◌-ℤ◌, int_lt, Bool, true, false, cond, List, Option, None, Some, length, IsTrue, refl, sym, ap, subst, ◌∙◌, ⊎_elim, arith, set}
use Rattle.std.proofs.lemmas.Int.{ints}
use Rattle.std.specs.Prelude.{⊤}
use Rattle.linear_cons.specs.Bounds.{Covers, IsFrom, IsUpTo, end_of}
use Rattle.linear_cons.specs.Functions.{coefficient, constant_of, substituted, value_at}
use Rattle.linear_cons.specs.Rows.{Meets, MeetsKind}
use Rattle.linear_cons.specs.declared.affine.Affine.{Affine}
use Rattle.linear_cons.specs.declared.bounds.Linear.{Linear}
use Rattle.linear_cons.specs.declared.row.Row.{Row}
use Rattle.linear_cons.specs.declared.row.RowKind.{RowKind}
use Rattle.linear_cons.specs.declared.row.RowKind.TheVariants.{Always, Never, Row as Kept}
use Rattle.linear_cons.proofs.Forms.{form_unmentioned, value_constant, value_substituted, value_sum}
use Rattle.linear_cons.proofs.RowLaws.{complement_met}
use Rattle.linear_forms.proofs.MeetingLaws.{row_meets}
use Rattle.decision_tree.specs.AffineRanks.{trend_of}
use Rattle.decision_tree.specs.Alternatives.{MeetsAny}
use Rattle.decision_tree.specs.Evaluation.{eval}
use Rattle.decision_tree.specs.Laws.AffineLaws.{trend_is}
use Rattle.decision_tree.specs.Nodes.{node}
use Rattle.decision_tree.specs.Plans.{Plan, bottom, branch, is_defined, leaf, top}
use Rattle.decision_tree.specs.Trend.{RunsWith, Trend, falling, greatest_of, rising, unmentioned}
use Rattle.decision_tree.specs.Alternatives.{Alternatives}
use Rattle.decision_tree.specs.declared.reason.Why.{Why}
use Rattle.tree_unify.proofs.Asking.{later_first, later_none, later_second, later_undefined, one_or_not}
use Rattle.tree_unify.proofs.Meeting.{eval_met, eval_missed, meets_or_not}
use Rattle.backward_transfer.specs.Mentions.{IsAtMost, IsWithout}
use Rattle.backward_transfer.specs.Ranges.{fails_at, fails_throughout, holds_at, holds_throughout, later_of, negated, ranged, row_at, step_to_greatest}
use Rattle.backward_transfer.specs.Steps.{asked, stepped}
use Rattle.backward_transfer.proofs.Standing.{asked_met, asked_missed}

-- the value of the range's function plus an end
value_end : (range : Linear) (n : ℤ) (store : List ℤ) → value_at (end_of range n) store ≡ value_at range.affine store +ℤ n
value_end range n store = value_sum range.affine (constant_of n) store ∙ ap (λ t. value_at range.affine store +ℤ t) (value_constant n store)

-- without the place a function keeps its value
trend_zero_at : (a : ℤ) (up down : Bool) → int_lt (pos 0) a ≡ up → int_lt a (pos 0) ≡ down → cond up rising (cond down falling unmentioned) ≡ unmentioned → a ≡ pos 0
trend_zero_at a true down first second is = absurd (cc)
trend_zero_at a false true first second is = absurd (cc)
trend_zero_at a false false first second is = omega (arith, ints)

zero_trend_at : (a : ℤ) (up down : Bool) → int_lt (pos 0) a ≡ up → int_lt a (pos 0) ≡ down → a ≡ pos 0 → cond up rising (cond down falling unmentioned) ≡ unmentioned
zero_trend_at a true down first second is = absurd (omega (arith, ints))
zero_trend_at a false true first second is = absurd (omega (arith, ints))
zero_trend_at a false false first second is = refl

zero_trend : (a : Affine) (place : ℕ) → coefficient a place ≡ pos 0 → trend_of a place ≡ unmentioned
zero_trend a place is = zero_trend_at (coefficient a place) _ _ refl refl is

module _ (row : Row) (place : ℕ) (range : Linear) (store : List ℤ) (z : ℤ) (low : place < 16) (long : length store ≡ 16) (covers : Covers range store z) where
  -- a constraint and the one that is met where it isn't
  negated_missed : (kind : RowKind) → MeetsKind store (negated kind) → MeetsKind store kind → ⊥
  negated_missed Always met both = met
  negated_missed Never met both = both
  negated_missed (Kept given) met both = (complement_met given.affine store).0 met both

  -- the row with an end put in holds where the row does behind it
  at_end : (n : ℤ) → MeetsKind store (row_at row place range n) ↔ Meets (set store place (value_at range.affine store +ℤ n)) row
  at_end n =
      let value : value_at (substituted row.affine place (end_of range n)) store ≡ value_at row.affine (set store place (value_at range.affine store +ℤ n))
      = value_substituted row.affine place (end_of range n) store low (omega arith) ∙ ap (λ (t : ℤ). value_at row.affine (set store place t)) (value_end range n store) in
      let meets = row_meets (substituted row.affine place (end_of range n)) store in
      (λ met. subst (λ (t : ℤ). pos 0 ≤ℤ t) value (meets.0 met), λ met. meets.1 (subst (λ (t : ℤ). pos 0 ≤ℤ t) (sym value) met))

  -- it doesn't fall from one number to another with which it runs
  runs_up : (from to : ℤ) → RunsWith (trend_of row.affine place) from to → Meets (set store place from) row → Meets (set store place to) row
  runs_up from to runs met = let never = trend_is row.affine place store from to low long runs in upward (value_at row.affine (set store place from)) (value_at row.affine (set store place to)) never met
    where
      upward : (v w : ℤ) → (w <ℤ v → ⊥) → pos 0 ≤ℤ v → pos 0 ≤ℤ w
      upward v w never met = ⊎_elim (λ below. absurd (never below)) (λ above. omega (arith, ints)) (decide v w _ refl)
        where
          decide : (v w : ℤ) (t : Bool) → int_lt w v ≡ t → (w <ℤ v) ⊎ (v ≤ℤ w)
          decide v w true is = inl (omega (arith, ints))
          decide v w false is = inr (omega (arith, ints))

  kept : coefficient row.affine place ≡ pos 0 → value_at row.affine (set store place z) ≡ value_at row.affine store
  kept none = form_unmentioned row.affine place store (pos 1) z (omega arith) none

  pub holds_each : MeetsKind store (holds_throughout (trend_of row.affine place) row place range) → Meets (set store place z) row
  holds_each met = at (trend_of row.affine place) refl met
    where
      at : (trend : Trend) → trend_of row.affine place ≡ trend → MeetsKind store (holds_throughout trend row place range) → Meets (set store place z) row
      at unmentioned is met = subst (λ (t : ℤ). pos 0 ≤ℤ t) (sym (kept (trend_zero_at (coefficient row.affine place) _ _ refl refl is))) met
      at rising is met = end range.lo refl met
        where
          end : (lo : Option ℤ) → range.lo ≡ lo → MeetsKind store (holds_at row place range lo) → Meets (set store place z) row
          end None given met = absurd met
          end (Some n) given met =
              let above : n ≤ℤ (z -ℤ value_at range.affine store) = subst (λ (t : Option ℤ). IsFrom t (z -ℤ value_at range.affine store)) given covers.lower in
              runs_up (value_at range.affine store +ℤ n) z (rw is (omega (arith, ints))) ((at_end n).0 met)
      at falling is met = end range.hi refl met
        where
          end : (hi : Option ℤ) → range.hi ≡ hi → MeetsKind store (holds_at row place range hi) → Meets (set store place z) row
          end None given met = absurd met
          end (Some n) given met =
              let below : (z -ℤ value_at range.affine store) ≤ℤ n = subst (λ (t : Option ℤ). IsUpTo t (z -ℤ value_at range.affine store)) given covers.upper in
              runs_up (value_at range.affine store +ℤ n) z (rw is (omega (arith, ints))) ((at_end n).0 met)

  pub fails_each : (MeetsKind store (holds_throughout (trend_of row.affine place) row place range) → ⊥)
      → MeetsKind store (fails_throughout (trend_of row.affine place) row place range) → Meets (set store place z) row → ⊥
  fails_each missed met here = at (trend_of row.affine place) refl missed met here
    where
      at : (trend : Trend) → trend_of row.affine place ≡ trend → (MeetsKind store (holds_throughout trend row place range) → ⊥)
          → MeetsKind store (fails_throughout trend row place range) → Meets (set store place z) row → ⊥
      at unmentioned is missed met here = missed (subst (λ (t : ℤ). pos 0 ≤ℤ t) (kept (trend_zero_at (coefficient row.affine place) _ _ refl refl is)) here)
      at rising is missed met here = end range.hi refl met
        where
          end : (hi : Option ℤ) → range.hi ≡ hi → MeetsKind store (fails_at row place range hi) → ⊥
          end None given met = met
          end (Some n) given met =
              let below : (z -ℤ value_at range.affine store) ≤ℤ n = subst (λ (t : Option ℤ). IsUpTo t (z -ℤ value_at range.affine store)) given covers.upper in
              negated_missed (row_at row place range n) met ((at_end n).1 (runs_up z (value_at range.affine store +ℤ n) (rw is (omega (arith, ints))) here))
      at falling is missed met here = end range.lo refl met
        where
          end : (lo : Option ℤ) → range.lo ≡ lo → MeetsKind store (fails_at row place range lo) → ⊥
          end None given met = met
          end (Some n) given met =
              let above : n ≤ℤ (z -ℤ value_at range.affine store) = subst (λ (t : Option ℤ). IsFrom t (z -ℤ value_at range.affine store)) given covers.lower in
              negated_missed (row_at row place range n) met ((at_end n).1 (runs_up z (value_at range.affine store +ℤ n) (rw is (omega (arith, ints))) here))

-- a store meets the constraint or it doesn't
kind_or_not : (store : List ℤ) (kind : RowKind) → MeetsKind store kind ⊎ (MeetsKind store kind → ⊥)
kind_or_not store Always = inl tt
kind_or_not store Never = inr (λ met. met)
kind_or_not store (Kept row) = meets_or_not row store

module _ {R : Type 0} (same : R → R → Bool) (alike : (rank other : R) → IsTrue (same rank other) ↔ (rank ≡ other))
    (where_greater : R → R → Alternatives) (greater_fits : R → R → Type 0) (trend : R → ℕ → Trend) (put : R → ℕ → Affine → R) (one_more : R → R) where
  -- a tree without the place is only stepped
  pub without_is_step : (place : ℕ) (range : Linear) (plan : Plan R) → IsWithout trend place plan
      → ranged same where_greater greater_fits trend put one_more place range plan ≡ stepped same one_more plan
  without_is_step place range bottom free = refl
  without_is_step place range (top cause) free = refl
  without_is_step place range (leaf why rank) free = ap (λ (t : Trend). step_to_greatest one_more (greatest_of rank t range (put rank place))) free
  without_is_step place range (branch row this that) free =
      let here = ranged same where_greater greater_fits trend put one_more place range this in
      let there = ranged same where_greater greater_fits trend put one_more place range that in
      ap (λ (t : Trend). asked same (holds_throughout t row place range) here (asked same (fails_throughout t row place range) there (later_of same where_greater greater_fits here there)))
      (zero_trend row.affine place free.0)
      ∙ ap (λ (t : Plan R). node same row t there) (without_is_step place range this free.1)
      ∙ ap (λ (t : Plan R). node same row (stepped same one_more this) t) (without_is_step place range that free.2)

  module _ {V : Type 0} (rank_value : R → List ℤ → V) (exceeds : V → V → Type 0)
      (greater : (rank other : R) (store : List ℤ) → MeetsAny store (where_greater rank other) ↔ exceeds (rank_value rank store) (rank_value other store))
      (one_way : (v w : V) → exceeds v w → exceeds w v → ⊥)
      (chain : (u v w : V) → (exceeds u v → ⊥) → (exceeds v w → ⊥) → exceeds u w → ⊥)
      (order : (rank other : R) (store next : List ℤ) → exceeds (rank_value (one_more rank) store) (rank_value (one_more other) next) ↔ exceeds (rank_value rank store) (rank_value other next))
      (place : ℕ) (range : Linear) (store : List ℤ) (z : ℤ) (low : place < 16) (long : length store ≡ 16) (covers : Covers range store z)
      (never : (rank best : R) → greatest_of rank (trend rank place) range (put rank place) ≡ Some best → exceeds (rank_value rank (set store place z)) (rank_value best store) → ⊥) where
    -- what is asked of the leaf behind the value where the leaf before it is defined
    abbrev Bounds : Plan R → Plan R → Type 0
    Bounds behind (leaf why rank) = IsAtMost rank_value exceeds one_more (set store place z) (rank_value rank store) behind
    Bounds behind bottom = ⊤
    Bounds behind (top cause) = ⊤
    Bounds behind (branch row this that) = ⊤

    weaker : (v w : V) (behind : Plan R) → (exceeds v w → ⊥) → IsAtMost rank_value exceeds one_more (set store place z) v behind
        → IsAtMost rank_value exceeds one_more (set store place z) w behind
    weaker v w (leaf why rank) never_more most = chain (rank_value (one_more rank) (set store place z)) v w most never_more
    weaker v w bottom never_more most = most
    weaker v w (top cause) never_more most = most
    weaker v w (branch row this that) never_more most = most

    carried : (l behind m before : Plan R) → l ≡ behind → m ≡ before → Bounds behind before → Bounds l m
    carried l behind m before first second bounds = rw (first, second) bounds

    later_bounds_at : (a b behind first second : Plan R) → eval a store ≡ first → eval b store ≡ second → Bounds behind first ⊎ Bounds behind second
        → Bounds behind (eval (later_of same where_greater greater_fits a b) store)
    later_bounds_at a b behind bottom second here there bounds =
        carried behind behind _ bottom refl (later_none same alike where_greater greater_fits a b store (ap is_defined here) ∙ here) tt
    later_bounds_at a b behind (top cause) second here there bounds =
        carried behind behind _ (top cause) refl (later_none same alike where_greater greater_fits a b store (ap is_defined here) ∙ here) tt
    later_bounds_at a b behind (branch row this that) second here there bounds =
        carried behind behind _ (branch row this that) refl (later_none same alike where_greater greater_fits a b store (ap is_defined here) ∙ here) tt
    later_bounds_at a b behind (leaf why rank) bottom here there bounds =
        carried behind behind _ bottom refl (later_undefined same alike where_greater greater_fits a b store (ap is_defined here) (ap is_defined there) ∙ there) tt
    later_bounds_at a b behind (leaf why rank) (top cause) here there bounds =
        carried behind behind _ (top cause) refl (later_undefined same alike where_greater greater_fits a b store (ap is_defined here) (ap is_defined there) ∙ there) tt
    later_bounds_at a b behind (leaf why rank) (branch row this that) here there bounds =
        carried behind behind _ (branch row this that) refl (later_undefined same alike where_greater greater_fits a b store (ap is_defined here) (ap is_defined there) ∙ there) tt
    later_bounds_at a b behind (leaf why rank) (leaf other next) here there bounds =
        ⊎_elim
        (λ met. carried behind behind _ (leaf other next) refl (later_second same alike where_greater greater_fits a b store why other rank next here there met)
        (⊎_elim (λ most. weaker (rank_value rank store) (rank_value next store) behind (one_way (rank_value next store) (rank_value rank store) ((greater next rank store).0 met)) most) (λ most. most) bounds))
        (λ missed. carried behind behind _ (leaf why rank) refl (later_first same alike where_greater greater_fits a b store why other rank next here there missed)
        (⊎_elim (λ most. most) (λ most. weaker (rank_value next store) (rank_value rank store) behind (λ more. missed ((greater next rank store).1 more)) most) bounds))
        (one_or_not store (where_greater next rank))

    leaf_bounds : (why : Why) (rank : R) (best : Option R) → greatest_of rank (trend rank place) range (put rank place) ≡ best
        → Bounds (leaf why rank) (eval (step_to_greatest one_more best) store)
    leaf_bounds why rank None is = tt
    leaf_bounds why rank (Some best) is = λ more. never rank best is ((order rank best (set store place z) store).0 more)

    ranged_bounds : (plan : Plan R) → Bounds (eval plan (set store place z)) (eval (ranged same where_greater greater_fits trend put one_more place range plan) store)
    ranged_bounds bottom = tt
    ranged_bounds (top cause) = tt
    ranged_bounds (leaf why rank) = leaf_bounds why rank (greatest_of rank (trend rank place) range (put rank place)) refl
    ranged_bounds (branch row this that) =
        let here = ranged same where_greater greater_fits trend put one_more place range this in
        let there = ranged same where_greater greater_fits trend put one_more place range that in
        let both = later_of same where_greater greater_fits here there in
        let holds = holds_throughout (trend_of row.affine place) row place range in
        let fails = fails_throughout (trend_of row.affine place) row place range in
        let rest = asked same fails there both in
        ⊎_elim
        (λ met. carried _ (eval this (set store place z)) _ (eval here store)
        (eval_met row this that (set store place z) (holds_each row place range store z low long covers met)) (asked_met same alike holds here rest store met) (ranged_bounds this))
        (λ missed. ⊎_elim
        (λ met. carried _ (eval that (set store place z)) _ (eval there store)
        (eval_missed row this that (set store place z) (fails_each row place range store z low long covers missed met))
        (asked_missed same alike holds here rest store missed ∙ asked_met same alike fails there both store met) (ranged_bounds that))
        (λ neither. ⊎_elim
        (λ met. carried _ (eval this (set store place z)) _ (eval both store) (eval_met row this that (set store place z) met)
        (asked_missed same alike holds here rest store missed ∙ asked_missed same alike fails there both store neither)
        (later_bounds_at here there (eval this (set store place z)) (eval here store) (eval there store) refl refl (inl (ranged_bounds this))))
        (λ apart. carried _ (eval that (set store place z)) _ (eval both store) (eval_missed row this that (set store place z) apart)
        (asked_missed same alike holds here rest store missed ∙ asked_missed same alike fails there both store neither)
        (later_bounds_at here there (eval that (set store place z)) (eval here store) (eval there store) refl refl (inr (ranged_bounds that))))
        (meets_or_not row (set store place z)))
        (kind_or_not store fails))
        (kind_or_not store holds)

    pub bounds_at : (plan : Plan R) (why : Why) (rank : R) → eval (ranged same where_greater greater_fits trend put one_more place range plan) store ≡ leaf why rank
        → IsAtMost rank_value exceeds one_more (set store place z) (rank_value rank store) (eval plan (set store place z))
    bounds_at plan why rank is = subst (λ (t : Plan R). Bounds (eval plan (set store place z)) t) is (ranged_bounds plan)
