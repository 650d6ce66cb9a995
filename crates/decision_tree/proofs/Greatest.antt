-- Nothing in a range exceeds the greatest that a rank becomes over it: over what ranks are, what they are at stores, and what exceeds.
use Rattle.std.proofs.Common.{arith, ◌≡◌, ℕ, ℤ, pos, ◌+ℤ◌, ◌-ℤ◌, ◌≤ℤ◌, List, Option, None, Some, slice_set, slice_index_or, refl, sym, ap, ◌∙◌, subst}
use Rattle.std.proofs.lemmas.Option.{none-some, same_Some}
use Rattle.std.proofs.lemmas.Int.{ints}
use Rattle.std.proofs.lemmas.List.{set-get_or}
use Rattle.linear_cons.specs.Bounds.{Covers, IsFrom, IsUpTo}
use Rattle.linear_cons.specs.Functions.{value_at, constant_of}
use Rattle.linear_cons.specs.declared.affine.Affine.{Affine}
use Rattle.linear_cons.specs.declared.bounds.Linear.{Linear}
use Rattle.linear_cons.proofs.Forms.{value_constant, value_sum}
use Rattle.linear_cons.specs.Bounds.{end_of}
use Rattle.decision_tree.specs.Trend.{Trend, unmentioned, rising, falling, RunsWith, put_end, greatest_of}

-- the value of the range's function plus an end
value_end : (range : Linear) (n : ℤ) (store : List ℤ) → value_at (end_of range n) store ≡ value_at range.affine store +ℤ n
value_end range n store = value_sum range.affine (constant_of n) store ∙ ap (λ t. value_at range.affine store +ℤ t) (value_constant n store)

-- with an end put in: it is exceeded by no number from which the rank doesn't fall towards the end
at_end : {R V : Type 0} (exceeds : V → V → Type 0) (value : R → List ℤ → V) (put : Affine → R) (rank best : R) (place : ℕ) (range : Linear) (store : List ℤ) (v : V)
    → ((by : Affine) → value (put by) store ≡ value rank (slice_set store place (value_at by store)))
    → (end : Option ℤ) → put_end range put end ≡ Some best
    → ((n : ℤ) → end ≡ Some n → exceeds v (value rank (slice_set store place (value_at (end_of range n) store))) → ⊥)
    → exceeds v (value best store) → ⊥
at_end exceeds value put rank best place range store v puts None is never more = absurd (none-some best is)
at_end exceeds value put rank best place range store v puts (Some n) is never more =
    never n refl (subst (λ t. exceeds v t) (ap (λ r. value r store) (sym (same_Some (put (end_of range n)) best is)) ∙ puts (end_of range n)) more)

pub never_exceeded : {R V : Type 0} (exceeds : V → V → Type 0) (value : R → List ℤ → V) (put : Affine → R) (rank best : R) (trend : Trend) (place : ℕ) (range : Linear) (store : List ℤ) (z : ℤ)
    → ((by : Affine) → value (put by) store ≡ value rank (slice_set store place (value_at by store)))
    → ((w : ℤ) → RunsWith trend z w → exceeds (value rank (slice_set store place z)) (value rank (slice_set store place w)) → ⊥)
    → greatest_of rank trend range put ≡ Some best → Covers range store z
    → exceeds (value rank (slice_set store place z)) (value best store) → ⊥
never_exceeded exceeds value put rank best unmentioned place range store z puts runs is covers more =
    let kept : slice_set store place (slice_index_or store place (pos 0)) ≡ store = set-get_or store place (pos 0) in
    let same : rank ≡ best = same_Some rank best is in
    runs (slice_index_or store place (pos 0)) tt (subst (λ t. exceeds (value rank (slice_set store place z)) t) (ap (λ r. value r store) (sym same) ∙ ap (value rank) (sym kept)) more)
never_exceeded exceeds value put rank best rising place range store z puts runs is covers more =
    at_end exceeds value put rank best place range store (value rank (slice_set store place z)) puts range.hi is
    (λ n has. runs (value_at (end_of range n) store)
    (let below : (z -ℤ value_at range.affine store) ≤ℤ n = subst (λ e. IsUpTo e (z -ℤ value_at range.affine store)) has covers.upper in
    let reached = value_end range n store in
    omega (arith, ints)))
    more
never_exceeded exceeds value put rank best falling place range store z puts runs is covers more =
    at_end exceeds value put rank best place range store (value rank (slice_set store place z)) puts range.lo is
    (λ n has. runs (value_at (end_of range n) store)
    (let above : n ≤ℤ (z -ℤ value_at range.affine store) = subst (λ e. IsFrom e (z -ℤ value_at range.affine store)) has covers.lower in
    let reached = value_end range n store in
    omega (arith, ints)))
    more
