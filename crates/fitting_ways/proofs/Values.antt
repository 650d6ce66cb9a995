-- Values of functions with small numbers.
use Rattle.std.proofs.Common.{◌≡◌, ℕ, ◌*◌, ◌^◌, ◌<◌, ◌≤◌, ℤ, ◌+ℤ◌, ◌*ℤ◌, List, unsigned_abs, arith}
use Rattle.std.specs.Int.{w128}
use Rattle.std.proofs.lemmas.Int.{fits_signed_from_abs}
use Rattle.linear_cons.specs.declared.affine.Affine.{Affine}
use Rattle.linear_cons.specs.Functions.{PartsFit, coefficient, value_at}
use Rattle.linear_cons.specs.LinearForm.{products_below}
use Rattle.linear_cons.specs.Numbers.{Fits128, number_at}
use Rattle.linear_cons.specs.Sizes.{SizesAtMost}
use Rattle.linear_cons.proofs.Sums.{value_is}
use Rattle.fitting_ways.specs.Ways.{HasSmallNumbers}
use Rattle.linear_solve.proofs.Sizes.{abs_add, abs_mul_le, products_size, weight_most}

fits : (z : ℤ) → unsigned_abs z < 2 ^ 127 → Fits128 z
fits z small = fits_signed_from_abs w128 z (omega arith)

module _ (a : Affine) (store : List ℤ) (sizes : SizesAtMost (2 ^ 60) a) (small : HasSmallNumbers store) where
  product : (i : ℕ) → i < 16 → unsigned_abs (coefficient a i *ℤ number_at store i) ≤ 2 ^ 60 * 2 ^ 63
  product i low = abs_mul_le (coefficient a i) (number_at store i) (2 ^ 60) (2 ^ 63) (sizes.coefficients i low) (let s = small i low in omega arith)

  sum : (n : ℕ) → n ≤ 16 → unsigned_abs (products_below n a.coef store) ≤ 2 ^ 64 * 9223372036854775807
  sum n few =
      let all = products_size n a.coef store 9223372036854775807 (λ i low. let s = small i (omega arith) in omega arith) in
      let weight = weight_most n a.coef (2 ^ 60) (λ i low. sizes.coefficients i (omega arith)) in
      omega (arith, all, weight)

  pub parts_fit : PartsFit a store
  parts_fit = record {
    products = λ i low. fits _ (let p = product i low in omega arith);
    sums = λ n few. fits _ (let s = sum n few in omega arith);
    whole = fits _ (
        let s = sum 16 (omega arith) in
        let c = sizes.constants in
        let both = abs_add (products_below 16 a.coef store) a.constant in
        let is : value_at a store ≡ products_below 16 a.coef store +ℤ a.constant = value_is a.coef a.constant store in
        rw is (omega arith));
  }
