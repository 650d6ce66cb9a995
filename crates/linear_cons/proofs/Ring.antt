-- The ring laws of the whole numbers, for `simp`, `omega (arith, ints)` and `cc`.
-- An equation of sums and products is `simp (mul_add, add_mul, mul_assoc) (omega (arith, ints))`.
use Rattle.std.proofs.Common.{◌≡◌, ◌+◌, ◌*◌, ◌<◌, ℤ, pos, negsuc, ◌+ℤ◌, ◌-ℤ◌, ◌*ℤ◌, neg_ℤ, ◌≤ℤ◌, ◌<ℤ◌, ap, ◌∙◌, arith}
use Rattle.std.proofs.lemmas.Int.{ints}
use Rattle.std.proofs.Math.Nat.{mul-le-mul_left, mul-lt-mul_of_pos_left}
use borrow.Author.Differences.{up, down, same_in, at_most_in, below_in, le_out, lt_out, product_is, sum_is_lem, neg_is}

-- the two parts of a product with a sum
module _ (a b c : ℤ) where
  up_sum : up a * up (b +ℤ c) + up a * down b + up a * down c ≡ up a * down (b +ℤ c) + up a * up b + up a * up c
  up_sum = omega (arith, ap (λ t. up a * t) (sum_is_lem b c))

  down_sum : down a * up (b +ℤ c) + down a * down b + down a * down c ≡ down a * down (b +ℤ c) + down a * up b + down a * up c
  down_sum = omega (arith, ap (λ t. down a * t) (sum_is_lem b c))

pub mul_add : (a b c : ℤ) → a *ℤ (b +ℤ c) ≡ a *ℤ b +ℤ a *ℤ c
mul_add a b c =
    same_in _ _ (omega (arith, up_sum a b c, down_sum a b c, product_is a (b +ℤ c), product_is a b, product_is a c, sum_is_lem (a *ℤ b) (a *ℤ c)))

pub mul_commutes : (a b : ℤ) → a *ℤ b ≡ b *ℤ a
mul_commutes a b =
    same_in _ _ (omega (arith, product_is a b, product_is b a))

pub add_mul : (a b c : ℤ) → (a +ℤ b) *ℤ c ≡ a *ℤ c +ℤ b *ℤ c
add_mul a b c = rw (mul_commutes (a +ℤ b) c, mul_commutes a c, mul_commutes b c) (mul_add c a b)

pub mul_assoc : (a b c : ℤ) → a *ℤ b *ℤ c ≡ a *ℤ (b *ℤ c)
mul_assoc a b c =
    let p = product_is a b in
    let q = product_is b c in
    same_in _ _ (omega (arith, product_is (a *ℤ b) c, product_is a (b *ℤ c), ap (λ t. t * up c) p.0, ap (λ t. t * down c) p.0, ap (λ t. t * up c) p.1, ap (λ t. t * down c) p.1, ap (λ t. up a * t) q.0, ap (λ t. up a * t) q.1, ap (λ t. down a * t) q.0, ap (λ t. down a * t) q.1))

pub mul_neg : (a b : ℤ) → a *ℤ neg_ℤ b ≡ neg_ℤ (a *ℤ b)
mul_neg a b =
    let n = neg_is b in
    same_in _ _ (omega (arith, product_is a (neg_ℤ b), product_is a b, neg_is (a *ℤ b), ap (λ t. up a * t) n.0, ap (λ t. up a * t) n.1, ap (λ t. down a * t) n.0, ap (λ t. down a * t) n.1))

pub neg_mul : (a b : ℤ) → neg_ℤ a *ℤ b ≡ neg_ℤ (a *ℤ b)
neg_mul a b = rw (mul_commutes (neg_ℤ a) b, mul_commutes a b) (mul_neg b a)

pub mul_sub : (a b c : ℤ) → a *ℤ (b -ℤ c) ≡ a *ℤ b -ℤ a *ℤ c
mul_sub a b c = mul_add a b (neg_ℤ c) ∙ ap (λ t. a *ℤ b +ℤ t) (mul_neg a c)

pub sub_mul : (a b c : ℤ) → (a -ℤ b) *ℤ c ≡ a *ℤ c -ℤ b *ℤ c
sub_mul a b c = add_mul a (neg_ℤ b) c ∙ ap (λ t. a *ℤ c +ℤ t) (neg_mul b c)

pub mul_one : (a : ℤ) → a *ℤ pos 1 ≡ a
mul_one a = same_in _ _ (omega (arith, product_is a (pos 1)))

pub one_mul : (a : ℤ) → pos 1 *ℤ a ≡ a
one_mul a = mul_commutes (pos 1) a ∙ mul_one a

pub mul_zero : (a : ℤ) → a *ℤ pos 0 ≡ pos 0
mul_zero a = same_in _ _ (omega (arith, product_is a (pos 0)))

pub zero_mul : (a : ℤ) → pos 0 *ℤ a ≡ pos 0
zero_mul a = mul_commutes (pos 0) a ∙ mul_zero a

pub add_commutes : (a b : ℤ) → a +ℤ b ≡ b +ℤ a
add_commutes a b = omega (arith, ints)

pub add_assoc : (a b c : ℤ) → a +ℤ b +ℤ c ≡ a +ℤ (b +ℤ c)
add_assoc a b c = omega (arith, ints)

pub add_zero : (a : ℤ) → a +ℤ pos 0 ≡ a
add_zero a = omega (arith, ints)

pub zero_add : (a : ℤ) → pos 0 +ℤ a ≡ a
zero_add a = omega (arith, ints)

-- a factor that is not negative keeps an order
pub mul_le : (a b c : ℤ) → pos 0 ≤ℤ a → b ≤ℤ c → (a *ℤ b) ≤ℤ (a *ℤ c)
mul_le (pos n) b c h le =
    at_most_in _ _ (omega (arith, product_is (pos n) b, product_is (pos n) c, mul-le-mul_left n (le_out b c le)))
mul_le (negsuc n) b c h le = absurd (omega (arith, ints))

-- a negative factor turns an order
pub mul_turned : (a b c : ℤ) → a <ℤ pos 0 → b ≤ℤ c → (a *ℤ c) ≤ℤ (a *ℤ b)
mul_turned a b c below le =
    let product : (neg_ℤ a *ℤ b) ≤ℤ (neg_ℤ a *ℤ c) = mul_le (neg_ℤ a) b c (omega (arith, ints)) le in
    let left : neg_ℤ a *ℤ b ≡ neg_ℤ (a *ℤ b) = neg_mul a b in
    let right : neg_ℤ a *ℤ c ≡ neg_ℤ (a *ℤ c) = neg_mul a c in
    omega (arith, ints)

-- a positive factor keeps a strict order
pub mul_lt : (a b c : ℤ) → pos 0 <ℤ a → b <ℤ c → (a *ℤ b) <ℤ (a *ℤ c)
mul_lt (pos n) b c h lt =
    let p : 0 < n = omega (arith, ints) in
    below_in _ _ (omega (arith, product_is (pos n) b, product_is (pos n) c, mul-lt-mul_of_pos_left (lt_out b c lt) p))
mul_lt (negsuc n) b c h lt = absurd (omega (arith, ints))

-- the product of two numbers that are not negative is not negative
pub mul_nonnegative : (a b : ℤ) → pos 0 ≤ℤ a → pos 0 ≤ℤ b → pos 0 ≤ℤ (a *ℤ b)
mul_nonnegative a b h k = rw (← mul_zero a) (mul_le a (pos 0) b h k)
