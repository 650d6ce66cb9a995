-- The sum of products, place by place, and what fits 128 bits on the way.
use Rattle.std.proofs.Common.{◌≡◌, ℕ, ◌+◌, ◌<◌, ℤ, pos, ◌+ℤ◌, ◌*ℤ◌, List, refl, ap, arith, add-one, below_more, lit<}
use Rattle.linear_cons.specs.Numbers.{Fits128, number_at}
use Rattle.linear_cons.specs.LinearForm.{products_below, linear_form}
use Rattle.linear_cons.proofs.Ring.{mul_one}

pub products_none : (coef num : List ℤ) → products_below 0 coef num ≡ pos 0
unfolding products_below
products_none coef num = refl

pub products_more : (n : ℕ) (coef num : List ℤ) → products_below (n + 1) coef num ≡ products_below n coef num +ℤ number_at coef n *ℤ number_at num n
unfolding products_below
products_more n coef num = rw add-one refl

-- the products below n and the sums of at most n products fit 128 bits
pub record PartsFitBelow (n : ℕ) (coef num : List ℤ) : Type 0 where
  pub products : (i : ℕ) → i < n → Fits128 (number_at coef i *ℤ number_at num i)
  pub sums : (k : ℕ) → k < n + 1 → Fits128 (products_below k coef num)

pub parts_none : (coef num : List ℤ) → PartsFitBelow 0 coef num
parts_none coef num = record {
  products = λ i h. absurd (omega arith);
  sums = λ k h. let e : k ≡ 0 = omega arith in rw (e, products_none) (record { sfits = lit< tt });
}

pub parts_more : (n : ℕ) (coef num : List ℤ) → PartsFitBelow n coef num → Fits128 (number_at coef n *ℤ number_at num n) → Fits128 (products_below (n + 1) coef num) → PartsFitBelow (n + 1) coef num
parts_more n coef num parts product sum = record {
  products = below_more _ _ parts.products product;
  sums = below_more _ _ parts.sums sum;
}

-- a store's value is the sum of its products and the constant
pub value_is : (coef : List ℤ) (constant : ℤ) (store : List ℤ) → linear_form coef constant store (pos 1) ≡ products_below 16 coef store +ℤ constant
unfolding linear_form
value_is coef constant store = ap (λ t. products_below 16 coef store +ℤ t) (mul_one constant)
