-- The laws of affine functions in order as ranks, proved.
use Rattle.linear_cons.specs.Functions.{coefficient, difference_of, complement_of, constant_of, sum_of, substituted, value_at}
use Rattle.linear_cons.specs.declared.affine.Affine.{Affine}
use Rattle.linear_cons.specs.Rows.{row_kind_of, MeetsKind}
use Rattle.decision_tree.specs.AffineRanks.{excess_of, trend_of}
use Rattle.decision_tree.specs.Trend.{Trend, falling, rising, unmentioned, RunsWith}
use Rattle.ordinal_rank.specs.Parts.{AreNatural, Exceeds, Numbers, Parts, excesses, negatives, trend_of_parts, trend_of_sign as number_trend, values_at}
use Rattle.ordinal_rank.specs.declared.ordinal.OrdinalRank.{OrdinalRank}
use Rattle.std.proofs.Common.{IsTrue, ◌&&◌, ◌∙◌}
use Rattle.std.specs.Ordering.{int_eq}
use Rattle.std.specs.Cmp.Lexicographic.{pointwise}
use Rattle.std.proofs.lemmas.Bool.Decides.{Decides-and}
use Rattle.linear_cons.proofs.RowLaws.{affine_eq-Decides}
use Rattle.std.proofs.Common.{◌≡◌, ℕ, zero, suc, ◌<◌, ◌↔◌, ℤ, pos, neg_ℤ, sym, ◌≤ℤ◌, ◌<ℤ◌, ◌⊎◌, Bool, true, false, List, [], ◌∷◌, length, set, int_lt, cond, arith, inl, inr, ⊎_elim, refl, ap}
use Rattle.std.proofs.lemmas.Int.{ints, by_lt_z}
use Rattle.linear_cons.proofs.Forms.{value_complement, value_difference, value_substituted}
use Rattle.linear_cons.proofs.KindLaws.{row_kind_is}
use Rattle.linear_cons.proofs.Ring.{mul_lt, neg_mul}
use Rattle.decision_tree.specs.Laws.AffineLaws.{kind_met, value_set, trend_is as function_trend_is, more_exceeds as function_exceeds, more_keeps as function_keeps, excess_is as function_excess, negative_is as function_negative}
use Rattle.decision_tree.specs.Alternatives.{MeetsAny, MeetsEach}

pub one_way_is : (j : ℕ) (v w : Numbers j) → Exceeds j v w → Exceeds j w v → ⊥
one_way_is zero v w more less = omega (arith, ints)
one_way_is (suc j) v w (inl more) (inl less) = omega (arith, ints)
one_way_is (suc j) v w (inl more) (inr less) = let same = less.0 in omega (arith, ints)
one_way_is (suc j) v w (inr more) (inl less) = let same = more.0 in omega (arith, ints)
one_way_is (suc j) v w (inr more) (inr less) = one_way_is j v.1 w.1 more.1 less.1

-- where some numbers don't exceed others, whatever exceeds the others does
pub above : (j : ℕ) (u v w : Numbers j) → (Exceeds j u v → ⊥) → Exceeds j u w → Exceeds j v w
above zero u v w fails more = by_lt_z v u (λ less. absurd (fails less)) (λ at_least. omega (arith, ints))
above (suc j) u v w fails more =
    by_lt_z v.0 u.0 (λ less. absurd (fails (inl less))) (λ at_least.
    by_lt_z u.0 v.0 (λ less. ⊎_elim (λ below. inl (omega (arith, ints))) (λ equal. let same = equal.0 in inl (omega (arith, ints))) more) (λ at_most.
    let same : u.0 ≡ v.0 = omega (arith, ints) in
    ⊎_elim (λ below. inl (omega (arith, ints)))
    (λ equal. let other = equal.0 in
    inr (omega (arith, ints), above j u.1 v.1 w.1 (λ exceeds. fails (inr (same, exceeds))) equal.1)) more))

pub chain_is : (j : ℕ) (u v w : Numbers j) → (Exceeds j u v → ⊥) → (Exceeds j v w → ⊥) → Exceeds j u w → ⊥
chain_is j u v w first second more = second (above j u v w first more)

-- another function put in for the variable at the place in each
abbrev pub put_in_each : (j : ℕ) → Parts j → ℕ → Affine → Parts j
put_in_each zero a place by = substituted a place by
put_in_each (suc j) parts place by = (substituted parts.0 place by, put_in_each j parts.1 place by)

pub substituted_is : (j : ℕ) (parts : Parts j) (place : ℕ) (by : Affine) (store : List ℤ) → place < 16 → length store ≡ 16
    → values_at j (put_in_each j parts place by) store ≡ values_at j parts (set store place (value_at by store))
substituted_is zero a place by store low long =
    let inside : place < length store = omega arith in value_substituted a place by store low inside
substituted_is (suc j) parts place by store low long =
    let inside : place < length store = omega arith in
    rw (value_substituted parts.0 place by store low inside, substituted_is j parts.1 place by store low long) refl

-- one more of the last
abbrev pub more_of_last : (j : ℕ) → Parts j → Parts j
more_of_last zero a = sum_of a (constant_of (pos 1))
more_of_last (suc j) parts = (parts.0, more_of_last j parts.1)

pub more_exceeds : (j : ℕ) (parts : Parts j) (store : List ℤ) → Exceeds j (values_at j (more_of_last j parts) store) (values_at j parts store)
more_exceeds zero a store = function_exceeds a store
more_exceeds (suc j) parts store = inr (refl, more_exceeds j parts.1 store)

pub more_keeps : (j : ℕ) (a b : Parts j) (store next : List ℤ)
    → Exceeds j (values_at j (more_of_last j a) store) (values_at j (more_of_last j b) next) ↔ Exceeds j (values_at j a store) (values_at j b next)
more_keeps zero a b store next = function_keeps a b store next
more_keeps (suc j) a b store next =
    let keeps = more_keeps j a.1 b.1 store next in
    (⊎_elim inl (λ more. inr (more.0, keeps.0 more.1)), ⊎_elim inl (λ more. inr (more.0, keeps.1 more.1)))

-- a store meets the row of a function where the function is at least 0
row_met : (a : Affine) (store : List ℤ) → MeetsKind store (row_kind_of a) ↔ (pos 0 ≤ℤ value_at a store)
row_met a store = kind_met a (row_kind_of a) (row_kind_is a) store

excess_met : (a b : Affine) (store : List ℤ) → MeetsKind store (row_kind_of (excess_of a b)) ↔ (value_at b store <ℤ value_at a store)
excess_met a b store =
    let found = function_excess a b store in
    (λ met. found.0 (inl met), λ more. ⊎_elim (λ (met : MeetsKind store (row_kind_of (excess_of a b))). met) (λ none. absurd none.1) (found.1 more))

-- the rows by which two functions are the same are met where their values are
same_met : (a b : Affine) (store : List ℤ)
    → MeetsEach store (row_kind_of (difference_of a b) ∷ row_kind_of (difference_of b a) ∷ []) ↔ (value_at a store ≡ value_at b store)
same_met a b store =
    let least = row_met (difference_of a b) store in
    let most = row_met (difference_of b a) store in
    let is = value_difference a b store in
    let turned = value_difference b a store in (
      λ met. let from = least.0 met.0 in let to = most.0 met.1.0 in omega (arith, ints),
      λ same. (least.1 (omega (arith, ints)), (most.1 (omega (arith, ints)), tt)),
    )

pub excess_is : (j : ℕ) (a b : Parts j) (store : List ℤ)
    → MeetsAny store (excesses j a b) ↔ Exceeds j (values_at j a store) (values_at j b store)
excess_is zero a b store = function_excess a b store
excess_is (suc j) a b store =
    let first = excess_met a.0 b.0 store in
    let equal = same_met a.0 b.0 store in
    let rest = excess_is j a.1 b.1 store in (
      ⊎_elim (λ met. inl (first.0 met)) (λ met. inr (equal.0 met.0, rest.0 met.1)),
      ⊎_elim (λ more. inl (first.1 more)) (λ more. inr (equal.1 more.0, rest.1 more.1)),
    )

-- a function below 0
below_met : (a : Affine) (store : List ℤ) → MeetsKind store (row_kind_of (complement_of a)) ↔ (value_at a store <ℤ pos 0)
below_met a store =
    let row = row_met (complement_of a) store in
    let is = value_complement a store in
    (λ met. let least = row.0 met in omega (arith, ints), λ less. row.1 (omega (arith, ints)))

pub negative_is : (j : ℕ) (parts : Parts j) (store : List ℤ)
    → MeetsAny store (negatives j parts) ↔ (AreNatural j (values_at j parts store) → ⊥)
negative_is zero a store = function_negative a store
negative_is (suc j) parts store =
    let below = below_met parts.0 store in
    let rest = negative_is j parts.1 store in (
      ⊎_elim (λ met natural. let less = below.0 met in let from = natural.0 in omega (arith, ints)) (λ met natural. rest.0 met.1 natural.1),
      λ fails. by_lt_z (value_at parts.0 store) (pos 0) (λ less. inl (below.1 less))
          (λ from. inr (tt, rest.1 (λ natural. fails (from, natural)))),
    )

-- numbers that aren't none that are natural are natural
pub at_least_nought : (j : ℕ) (v : Numbers j) → ((AreNatural j v → ⊥) → ⊥) → AreNatural j v
at_least_nought zero v fails = by_lt_z v (pos 0) (λ below. absurd (fails (λ from. omega (arith, ints)))) (λ from. from)
at_least_nought (suc j) v fails =
    by_lt_z v.0 (pos 0) (λ below. absurd (fails (λ natural. let from = natural.0 in omega (arith, ints))))
    (λ from. (from, at_least_nought j v.1 (λ none. fails (λ natural. none natural.1))))

-- a function whose coefficient isn't 0 has another value where the place has another number
moves : (a : Affine) (place : ℕ) (store : List ℤ) (z w : ℤ) → place < 16 → length store ≡ 16
    → value_at a (set store place z) ≡ value_at a (set store place w) → z <ℤ w → coefficient a place ≡ pos 0
moves a place store z w low long same less =
    let here = value_set a place store z low long in
    let there = value_set a place store w low long in
    by_lt_z (pos 0) (coefficient a place)
    (λ above. let more = mul_lt (coefficient a place) z w above less in omega (arith, ints))
    (λ at_most. by_lt_z (coefficient a place) (pos 0)
    (λ below. let up : pos 0 <ℤ neg_ℤ (coefficient a place) = omega (arith, ints) in
    let more = mul_lt (neg_ℤ (coefficient a place)) z w up less in
    let turned = neg_mul (coefficient a place) z in
    let other = neg_mul (coefficient a place) w in
    omega (arith, ints))
    (λ at_least. omega (arith, ints)))

-- so equal values have equal numbers at the place
same_number : (a : Affine) (place : ℕ) (store : List ℤ) (z w : ℤ) → place < 16 → length store ≡ 16
    → (coefficient a place ≡ pos 0 → ⊥) → value_at a (set store place z) ≡ value_at a (set store place w) → z ≡ w
same_number a place store z w low long apart same =
    by_lt_z z w (λ less. absurd (apart (moves a place store z w low long same less)))
    (λ from. by_lt_z w z (λ less. absurd (apart (moves a place store w z low long (sym same) less)))
    (λ to. omega (arith, ints)))

-- the trend of the first function, where it has one, else the other
trend_of_sign : (a : Affine) (other : Trend) (place : ℕ) (up down : Bool) → int_lt (pos 0) (coefficient a place) ≡ up
    → int_lt (coefficient a place) (pos 0) ≡ down → (z w : ℤ) → RunsWith (cond up rising (cond down falling other)) z w
    → (RunsWith (trend_of a place) z w × (coefficient a place ≡ pos 0 → ⊥)) ⊎ (RunsWith (trend_of a place) z w × RunsWith other z w)
trend_of_sign a other place true down is also z w runs = inl (rw is runs, λ none. omega (arith, ints))
trend_of_sign a other place false true is also z w runs = inl (rw (is, also) runs, λ none. omega (arith, ints))
trend_of_sign a other place false false is also z w runs = inr (rw (is, also) tt, runs)

-- where a function doesn't mention the place the next ones tell how all move, and else its coefficient does
pub trend_behind : (j : ℕ) (parts : Parts (suc j)) (place : ℕ) → coefficient parts.0 place ≡ pos 0
    → trend_of_parts (suc j) parts place ≡ trend_of_parts j parts.1 place
trend_behind j parts place is = rw is refl

trend_by : (number : ℤ) (other : Trend) (up down : Bool) → int_lt (pos 0) number ≡ up → int_lt number (pos 0) ≡ down → (number ≡ pos 0 → ⊥)
    → cond up rising (cond down falling unmentioned) ≡ cond up rising (cond down falling other)
trend_by number other true down is also apart = refl
trend_by number other false true is also apart = refl
trend_by number other false false is also apart = absurd (apart (omega (arith, ints)))

pub trend_here : (j : ℕ) (parts : Parts (suc j)) (place : ℕ) → (coefficient parts.0 place ≡ pos 0 → ⊥)
    → number_trend (coefficient parts.0 place) ≡ trend_of_parts (suc j) parts place
trend_here j parts place apart =
    trend_by (coefficient parts.0 place) (trend_of_parts j parts.1 place) (int_lt (pos 0) (coefficient parts.0 place))
    (int_lt (coefficient parts.0 place) (pos 0)) refl refl apart

-- numbers don't exceed themselves
not_itself : (j : ℕ) (v : Numbers j) → Exceeds j v v → ⊥
not_itself j v more = one_way_is j v v more more

pub trend_is : (j : ℕ) (parts : Parts j) (place : ℕ) (store : List ℤ) (z w : ℤ) → place < 16 → length store ≡ 16
    → RunsWith (trend_of_parts j parts place) z w
    → Exceeds j (values_at j parts (set store place z)) (values_at j parts (set store place w)) → ⊥
trend_is zero a place store z w low long runs = function_trend_is a place store z w low long runs
trend_is (suc j) parts place store z w low long runs =
    ⊎_elim
    (λ led. ⊎_elim (function_trend_is parts.0 place store z w low long led.0)
    (λ more. let same = same_number parts.0 place store z w low long led.1 more.0 in
    not_itself j (values_at j parts.1 (set store place w)) (rw same at more.1)))
    (λ both. ⊎_elim (function_trend_is parts.0 place store z w low long both.0)
    (λ more. trend_is j parts.1 place store z w low long both.1 more.1))
    (trend_of_sign parts.0 (trend_of_parts j parts.1 place) place (int_lt (pos 0) (coefficient parts.0 place))
    (int_lt (coefficient parts.0 place) (pos 0)) refl refl z w runs)

same_rank : (rank other : OrdinalRank) → rank.fourth ≡ other.fourth → rank.third ≡ other.third → rank.second ≡ other.second
    → rank.first ≡ other.first → rank.finite ≡ other.finite → rank ≡ other
same_rank rank other fourth third second first finite =
    ap (λ (a : Affine). let r : OrdinalRank = record { fourth = a; third = rank.third; second = rank.second; first = rank.first; finite = rank.finite } in r) fourth
    ∙ ap (λ (a : Affine). let r : OrdinalRank = record { fourth = other.fourth; third = a; second = rank.second; first = rank.first; finite = rank.finite } in r) third
    ∙ ap (λ (a : Affine). let r : OrdinalRank = record { fourth = other.fourth; third = other.third; second = a; first = rank.first; finite = rank.finite } in r) second
    ∙ ap (λ (a : Affine). let r : OrdinalRank = record { fourth = other.fourth; third = other.third; second = other.second; first = a; finite = rank.finite } in r) first
    ∙ ap (λ (a : Affine). let r : OrdinalRank = record { fourth = other.fourth; third = other.third; second = other.second; first = other.first; finite = a } in r) finite

abbrev same_functions : Affine → Affine → Bool
same_functions a b = pointwise int_eq a.coef b.coef && int_eq a.constant b.constant

pub equal_is : (rank other : OrdinalRank)
    → IsTrue (same_functions rank.fourth other.fourth && (same_functions rank.third other.third && (same_functions rank.second other.second
    && (same_functions rank.first other.first && same_functions rank.finite other.finite))))
    ↔ (rank ≡ other)
equal_is rank other =
    let decided = Decides-and _ _ (affine_eq-Decides rank.fourth other.fourth) (Decides-and _ _ (affine_eq-Decides rank.third other.third)
    (Decides-and _ _ (affine_eq-Decides rank.second other.second) (Decides-and _ _ (affine_eq-Decides rank.first other.first)
    (affine_eq-Decides rank.finite other.finite)))) in (
      λ equal. let all = decided.0 equal in same_rank rank other all.0 all.1.0 all.1.1.0 all.1.1.1.0 all.1.1.1.1,
      λ same. decided.1 (rw same (refl, (refl, (refl, (refl, refl))))),
    )
