-- What a system asks of the value of a function, and systems that are blocked by it.
use Rattle.std.proofs.Common.{◌≡◌, ◌⊎◌, ℕ, ◌*◌, ◌<◌, ◌≤◌, replicate, ℤ, pos, negsuc, neg_ℤ, ◌+ℤ◌, ◌*ℤ◌, ◌≤ℤ◌, ◌<ℤ◌, inl, inr, List, length, refl, ap, ◌∙◌, arith}
use Rattle.std.proofs.Math.Nat.{mul-le-mul}
use Rattle.std.proofs.lemmas.Int.{ints}
use Rattle.linear_cons.specs.declared.affine.Affine.{Affine}
use Rattle.linear_cons.specs.Functions.{value_at}
use Rattle.linear_cons.proofs.Ring.{mul_add, mul_assoc, mul_le, mul_neg, mul_zero, one_mul}
use Rattle.decision_tree.specs.declared.affine_rank.AffineRank.{AffineRank}
use Rattle.constraint_stack.specs.Forming.{Formed}
use Rattle.constraint_stack.specs.Claims.{System}
use Rattle.count_down.specs.Blocking.{AskedIn, AsksFor, IsBlocked}
use Rattle.count_down.specs.Cancelling.{Cancel}

-- the function is at least 0 only where v is: some multiple of it is v less a natural
pub record Lower (v : List ℤ → ℤ) (a : Affine) : Type 0 where
  pub scale : ℕ
  pub some : 0 < scale
  pub off : ℤ
  pub low : off ≤ℤ pos 0
  pub is : (store : List ℤ) → length store ≡ 16 → pos scale *ℤ value_at a store ≡ v store +ℤ off

-- the function is at least 0 only where v is below 0: a multiple of it and a multiple of v sum to a negative number
pub record Falls (v : List ℤ → ℤ) (a : Affine) : Type 0 where
  pub scale : ℕ
  pub some : 0 < scale
  pub slope : ℕ
  pub some_slope : 0 < slope
  pub off : ℤ
  pub low : off <ℤ pos 0
  pub is : (store : List ℤ) → length store ≡ 16 → pos scale *ℤ value_at a store +ℤ pos slope *ℤ v store ≡ off

abbrev pub AlwaysIs : (List ℤ → ℤ) → ℤ → Type 0
AlwaysIs v c = (store : List ℤ) → length store ≡ 16 → v store ≡ c

-- what is asked says that v is at least 0, or v is such a number everywhere
abbrev pub Natural : List Formed → (List ℤ → ℤ) → Type 0
Natural asks v = ((a : Affine) × AskedIn asks a × Lower v a) ⊎ ((c : ℤ) × (pos 0 ≤ℤ c) × AlwaysIs v c)

-- it says that v is below 0, or v is such a number everywhere
abbrev pub Negative : List Formed → (List ℤ → ℤ) → Type 0
Negative asks v = ((a : Affine) × AskedIn asks a × Falls v a) ⊎ ((c : ℤ) × (c <ℤ pos 0) × AlwaysIs v c)

below_is : (z : ℤ) → z <ℤ pos 0 → (n : ℕ) × (z ≡ negsuc n)
below_is (pos n) less = absurd (omega (arith, ints))
below_is (negsuc n) less = (n, refl)

cancel : (a b : Affine) (p q : ℕ) (z : ℤ) → 0 < p → 0 < q → z <ℤ pos 0
    → ((store : List ℤ) → length store ≡ 16 → pos p *ℤ value_at a store +ℤ pos q *ℤ value_at b store ≡ z) → Cancel a b
cancel a b p q z some others below sum =
    let n = below_is z below in
    record { times = p; others = q; some_times = some; some_others = others; lack = n.0; sum = λ store long. sum store long ∙ n.1 }

both_some : (p q : ℕ) → 0 < p → 0 < q → 0 < p * q
both_some p q some others = let product : 1 * 1 ≤ p * q = mul-le-mul some others in omega arith

-- a function that is v less a natural cancels with one that falls with v, and so it does with v + d where d is at most 0
cancel_sides : (v w : List ℤ → ℤ) (d : ℤ) (a b : Affine) → d ≤ℤ pos 0 → ((store : List ℤ) → length store ≡ 16 → w store ≡ v store +ℤ d)
    → Falls v a → Lower w b → Cancel a b
cancel_sides v w d a b less is falls lower =
    cancel a b falls.scale (falls.slope * lower.scale) (falls.off +ℤ pos falls.slope *ℤ (d +ℤ lower.off)) falls.some
    (both_some falls.slope lower.scale falls.some_slope lower.some)
    (let low = lower.low in
    let down = mul_le (pos falls.slope) (d +ℤ lower.off) (pos 0) (omega (arith, ints)) (omega (arith, ints)) in
    let zero = mul_zero (pos falls.slope) in
    let below = falls.low in
    omega (arith, ints))
    (λ store long.
    let own = falls.is store long in
    let other = lower.is store long in
    let more = is store long in
    let parts : pos (falls.slope * lower.scale) *ℤ value_at b store ≡ pos falls.slope *ℤ (pos lower.scale *ℤ value_at b store) =
    mul_assoc (pos falls.slope) (pos lower.scale) (value_at b store) in
    let whole : pos lower.scale *ℤ value_at b store ≡ v store +ℤ (d +ℤ lower.off) = omega (arith, ints) in
    let put = ap (λ t. pos falls.slope *ℤ t) whole in
    let spread = mul_add (pos falls.slope) (v store) (d +ℤ lower.off) in
    omega (arith, ints))

sinks : (a : Affine) (p : ℕ) (z : ℤ) → 0 < p → z <ℤ pos 0 → ((store : List ℤ) → length store ≡ 16 → pos p *ℤ value_at a store ≡ z) → Cancel a a
sinks a p z some below is =
    cancel a a p p (z +ℤ z) some some (omega (arith, ints)) (λ store long. let own = is store long in omega (arith, ints))

module _ (system : System AffineRank) where
  pub by : (a b : Affine) → AsksFor system a → AsksFor system b → Cancel a b → IsBlocked system
  by a b one two cancels = record { one = a; two = b; asks_one = one; asks_two = two; cancels = cancels }

  -- a function that is asked falls with v, which is at least 0
  pub by_fall : (v : List ℤ → ℤ) (a : Affine) → AsksFor system a → Falls v a → Natural system.asks v → IsBlocked system
  by_fall v a asked falls (inl natural) =
      by a natural.0 asked (inl natural.1)
      (cancel_sides v v (pos 0) a natural.0 (omega (arith, ints)) (λ store long. omega (arith, ints)) falls natural.2)
  by_fall v a asked falls (inr always) =
      by a a asked asked
      (sinks a falls.scale (falls.off +ℤ pos falls.slope *ℤ (pos 0 +ℤ neg_ℤ always.0)) falls.some
      (let from = always.1 in
      let down = mul_le (pos falls.slope) (pos 0 +ℤ neg_ℤ always.0) (pos 0) (omega (arith, ints)) (omega (arith, ints)) in
      let zero = mul_zero (pos falls.slope) in
      let below = falls.low in
      omega (arith, ints))
      (λ store long.
      let own = falls.is store long in
      let same = ap (λ t. pos falls.slope *ℤ t) (always.2 store long) in
      let spread = mul_add (pos falls.slope) (pos 0) (neg_ℤ always.0) in
      let none = mul_zero (pos falls.slope) in
      let turned = mul_neg (pos falls.slope) always.0 in
      omega (arith, ints)))

  -- a function that is asked is the same negative number everywhere
  pub by_claim : (a : Affine) (z : ℤ) → AsksFor system a → z <ℤ pos 0 → ((store : List ℤ) → length store ≡ 16 → value_at a store ≡ z)
      → IsBlocked system
  by_claim a z asked below is =
      by a a asked asked (sinks a 1 z (omega arith) below (λ store long. one_mul (value_at a store) ∙ is store long))

  -- v is below 0, and what is at most v is at least 0
  pub by_sides : (v w : List ℤ → ℤ) (d : ℤ) → d ≤ℤ pos 0 → ((store : List ℤ) → length store ≡ 16 → w store ≡ v store +ℤ d)
      → Negative system.asks v → Natural system.asks w → IsBlocked system
  by_sides v w d less is (inl negative) (inl natural) =
      by negative.0 natural.0 (inl negative.1) (inl natural.1) (cancel_sides v w d negative.0 natural.0 less is negative.2 natural.2)
  by_sides v w d less is (inl negative) (inr always) =
      by_fall v negative.0 (inl negative.1) negative.2
      (inr (
        always.0 +ℤ neg_ℤ d,
        (let from = always.1 in omega (arith, ints)),
        λ store long. let own = is store long in let other =
            always.2 store long in omega (arith, ints),
      ))
  by_sides v w d less is (inr always) (inl natural) =
      by natural.0 natural.0 (inl natural.1) (inl natural.1)
      (sinks natural.0 natural.2.scale (always.0 +ℤ (d +ℤ natural.2.off)) natural.2.some
      (let below = always.1 in let low = natural.2.low in omega (arith, ints))
      (λ store long. let own = is store long in let other = always.2 store long in let lower = natural.2.is store long in omega (arith, ints)))
  by_sides v w d less is (inr always) (inr other) =
      let store : List ℤ = zeros 16 in
      absurd (let below = always.1 in let from = other.1 in let own = is store long in let one = always.2 store long in let two = other.2 store long
      in omega (arith, ints))
    where
      zeros : ℕ → List ℤ
      zeros n = replicate n (pos 0)

      long : length (replicate 16 (pos 0)) ≡ 16
      long = refl
