-- The laws of affine functions as ranks, proved.
use Rattle.std.proofs.Common.{◌≡◌, ℕ, ◌<◌, ◌↔◌, ℤ, pos, negsuc, neg_ℤ, ◌+ℤ◌, ◌*ℤ◌, ◌≤ℤ◌, ◌<ℤ◌, Bool, true, false, List, length, set}
use Rattle.std.proofs.Common.{int_lt, cond, arith, inl, ⊎_elim, refl, ◌∙◌, ap}
use Rattle.std.proofs.Common.{eqb, ◌≢◌}
use Rattle.std.proofs.lemmas.Bool.Decides.{eqb_tells}
use Rattle.std.proofs.lemmas.Int.{ints, by_lt_z}
use Rattle.linear_cons.specs.Functions.{coefficient, complement_of, constant_of, difference_of, sum_of, value_at, without}
use Rattle.linear_cons.specs.Rows.{IsRowOf, MeetsKind}
use Rattle.linear_cons.specs.declared.affine.Affine.{Affine}
use Rattle.linear_cons.specs.declared.row.RowKind.{RowKind}
use Rattle.linear_cons.specs.declared.row.RowKind.TheVariants.{Always, Never, Row as Kept}
use Rattle.linear_cons.proofs.Forms.{form_apart, form_unmentioned, value_complement, value_constant, value_difference, value_sum}
use Rattle.linear_cons.proofs.KindLaws.{row_kind_is}
use Rattle.linear_cons.specs.Rows.{row_kind_of}
use Rattle.linear_cons.proofs.Places.{number_at-clear, number_at-set}
use Rattle.linear_cons.proofs.Ring.{mul_le, neg_mul, zero_mul}
use Rattle.linear_cons.proofs.RowLaws.{constant_value, quotient_same_stores}
use Rattle.linear_cons.specs.Numbers.{number_at}
use Rattle.std.proofs.Common.{IsTrue, ◌&&◌}
use Rattle.std.specs.Ordering.{int_eq}
use Rattle.std.specs.Cmp.Lexicographic.{pointwise}
use Rattle.linear_cons.proofs.RowLaws.{affine_eq-Decides}
use Rattle.decision_tree.specs.declared.affine_rank.AffineRank.{AffineRank}
use Rattle.decision_tree.specs.Alternatives.{MeetsAny}
use Rattle.decision_tree.specs.AffineRanks.{excess_of, only, trend_of}
use Rattle.decision_tree.specs.Trend.{RunsWith, falling, rising, unmentioned}

pub kind_met : (a : Affine) (kind : RowKind) → IsRowOf a kind → (store : List ℤ) → MeetsKind store kind ↔ (pos 0 ≤ℤ value_at a store)
kind_met a Always is store = (λ always. rw (constant_value a store is.0) is.1, λ met. tt)
kind_met a Never is store = (λ never. absurd never, λ met. let low = is.1 in let e = constant_value a store is.0 in omega (arith, ints))
kind_met a (Kept row) is store = quotient_same_stores a row.affine is store

-- a store meets the one constraint where the function is at least 0
pub only_is : (a : Affine) (store : List ℤ) → MeetsAny store (only a) ↔ (pos 0 ≤ℤ value_at a store)
only_is a store =
    let kind = kind_met a (row_kind_of a) (row_kind_is a) store in
    (⊎_elim (λ met. kind.0 met) (λ none. absurd none.1), λ least. inl (kind.1 least))

pub excess_is : (a b : Affine) (store : List ℤ) → MeetsAny store (only (excess_of a b)) ↔ (value_at b store <ℤ value_at a store)
excess_is a b store =
    let found = only_is (excess_of a b) store in
    let whole : value_at (excess_of a b) store ≡ value_at (difference_of a b) store +ℤ value_at (constant_of (negsuc 0)) store =
    value_sum (difference_of a b) (constant_of (negsuc 0)) store in
    let part = value_difference a b store in
    let one = value_constant (negsuc 0) store in
    (λ met. let least = found.0 met in omega (arith, ints), λ more. found.1 (omega (arith, ints)))

pub negative_is : (a : Affine) (store : List ℤ) → MeetsAny store (only (complement_of a)) ↔ (pos 0 ≤ℤ value_at a store → ⊥)
negative_is a store =
    let found = only_is (complement_of a) store in
    let is = value_complement a store in (
      λ met natural. let least = found.0 met in omega (arith, ints),
      λ fails. by_lt_z (value_at a store) (pos 0)
          (λ less. found.1 (omega (arith, ints))) (λ from. absurd (fails from)),
    )

more_is : (a : Affine) (store : List ℤ) → value_at (sum_of a (constant_of (pos 1))) store ≡ value_at a store +ℤ pos 1
more_is a store = value_sum a (constant_of (pos 1)) store ∙ ap (λ t. value_at a store +ℤ t) (value_constant (pos 1) store)

pub more_exceeds : (a : Affine) (store : List ℤ) → value_at a store <ℤ value_at (sum_of a (constant_of (pos 1))) store
more_exceeds a store = let is = more_is a store in omega (arith, ints)

pub more_keeps : (a b : Affine) (store next : List ℤ)
    → (value_at (sum_of b (constant_of (pos 1))) next <ℤ value_at (sum_of a (constant_of (pos 1))) store)
    ↔ (value_at b next <ℤ value_at a store)
more_keeps a b store next =
    let first = more_is a store in
    let second = more_is b next in
    (λ more. omega (arith, ints), λ more. omega (arith, ints))

pub chain_is : (u v w : ℤ) → (v <ℤ u → ⊥) → (w <ℤ v → ⊥) → w <ℤ u → ⊥
chain_is u v w first second both = by_lt_z v u first (λ at_most. second (omega (arith, ints)))

same_place : (i : ℕ) → eqb i i ≡ true
same_place i = ⊎_elim (λ (same : (eqb i i ≡ true) × (i ≡ i)). same.0)
    (λ (apart : (eqb i i ≡ false) × (i ≢ i)). absurd (apart.1 refl)) (eqb_tells i i)

-- the value with a number set at the place
pub value_set : (a : Affine) (place : ℕ) (store : List ℤ) (z : ℤ) → place < 16 → length store ≡ 16
    → value_at a (set store place z) ≡ value_at (without a place) store +ℤ coefficient a place *ℤ z
value_set a place store z low long =
    let inside : place < length store = omega arith in
    let none : coefficient (without a place) place ≡ pos 0 = number_at-clear a.coef place place
    ∙ ap (λ t. cond t (pos 0) (number_at a.coef place)) (same_place place) in
    let here : number_at (set store place z) place ≡ z = number_at-set store place place z inside
    ∙ ap (λ t. cond t z (number_at store place)) (same_place place) in
    form_apart a place (set store place z) (pos 1) low
    ∙ ap (λ t. t +ℤ coefficient a place *ℤ number_at (set store place z) place)
    (form_unmentioned (without a place) place store (pos 1) z inside none)
    ∙ ap (λ t. value_at (without a place) store +ℤ coefficient a place *ℤ t) here

-- the product with the coefficient moves as the trend of its sign says
product_moves : (c z w : ℤ) (up down : Bool) → int_lt (pos 0) c ≡ up → int_lt c (pos 0) ≡ down
    → RunsWith (cond up rising (cond down falling unmentioned)) z w → (c *ℤ z) ≤ℤ (c *ℤ w)
product_moves c z w true down is other runs = let above : pos 0 ≤ℤ c = omega (arith, ints) in mul_le c z w above runs
product_moves c z w false true is other runs =
    let above : pos 0 ≤ℤ neg_ℤ c = omega (arith, ints) in
    let turned = mul_le (neg_ℤ c) w z above runs in
    let here = neg_mul c w in
    let there = neg_mul c z in
    omega (arith, ints)
product_moves c z w false false is other runs =
    let none : c ≡ pos 0 = omega (arith, ints) in
    rw (none, zero_mul z, zero_mul w) (omega (arith, ints))

pub trend_is : (a : Affine) (place : ℕ) (store : List ℤ) (z w : ℤ) → place < 16 → length store ≡ 16 → RunsWith (trend_of a place) z w
    → value_at a (set store place w) <ℤ value_at a (set store place z) → ⊥
trend_is a place store z w low long runs less =
    let here = value_set a place store z low long in
    let there = value_set a place store w low long in
    let moves = product_moves (coefficient a place) z w (int_lt (pos 0) (coefficient a place))
    (int_lt (coefficient a place) (pos 0)) refl refl runs in
    omega (arith, ints)

pub equal_is : (rank other : AffineRank)
    → IsTrue (pointwise int_eq rank.value.coef other.value.coef && int_eq rank.value.constant other.value.constant)
    ↔ (rank ≡ other)
equal_is rank other =
    let decided = affine_eq-Decides rank.value other.value in (
      λ equal. ap (λ (a : Affine). let r : AffineRank = record { value = a } in r) (decided.0 equal),
      λ same. decided.1 (ap (λ (r : AffineRank). r.value) same),
    )
