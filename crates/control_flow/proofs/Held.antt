-- Numbers that are kept up to a greatest one: sums and products of what is kept.
use Rattle.std.proofs.Common.{◌≡◌, ◌⊎◌, inl, inr, ℕ, zero, suc, ◌+◌, ◌*◌, ◌≤◌, min, max, sym, ap, ◌∙◌, arith, ⊎_elim}
use Rattle.std.proofs.Math.Nat.{le_refl, mul-le-mul, mul_comm}

module _ (top : ℕ) (some : 1 ≤ top) where
  small_or : (a b : ℕ) → (a ≤ b) ⊎ (b ≤ a)
  small_or zero b = inl (omega arith)
  small_or (suc a) zero = inr (omega arith)
  small_or (suc a) (suc b) = ⊎_elim (λ less. inl (omega arith)) (λ more. inr (omega arith)) (small_or a b)

  kept : (a : ℕ) → a ≤ top → min a top ≡ a
  kept a less = omega arith

  cut : (a : ℕ) → top ≤ a → min a top ≡ top
  cut a more = omega arith

  pub sum_left : (a b : ℕ) → min (min a top + b) top ≡ min (a + b) top
  sum_left a b = omega arith

  pub sum_right : (a b : ℕ) → min (a + min b top) top ≡ min (a + b) top
  sum_right a b = omega arith

  pub product_left : (a b : ℕ) → min (min a top * b) top ≡ min (a * b) top
  product_left a zero = omega arith
  product_left a (suc b) = ⊎_elim
      (λ less. ap (λ t. min (t * suc b) top) (kept a less))
      (λ more.
      let one : top * 1 ≤ top * suc b = mul-le-mul (le_refl top) (omega arith) in
      let two : a * 1 ≤ a * suc b = mul-le-mul (le_refl a) (omega arith) in
      ap (λ t. min (t * suc b) top) (cut a more) ∙ cut (top * suc b) (omega arith) ∙ sym (cut (a * suc b) (omega arith))) (small_or a top)

  pub product_right : (a b : ℕ) → min (a * min b top) top ≡ min (a * b) top
  product_right a b = ap (λ t. min t top) (mul_comm a (min b top)) ∙ product_left b a ∙ ap (λ t. min t top) (mul_comm b a)

  -- a step, a whole `?`, another test
  pub one_more_kept : (a b : ℕ) → a ≡ min b top → min (a + 1) top ≡ min (b + 1) top
  one_more_kept a b is = ap (λ t. min (t + 1) top) is ∙ sum_left b 1

  pub free_kept : (a b x y : ℕ) → a ≡ min x top → b ≡ min y top → min (min (a * b) top * 4) top ≡ min (4 * (x * y)) top
  free_kept a b x y one two =
      product_left (a * b) 4
      ∙ ap (λ t. min t top) (mul_comm (a * b) 4)
      ∙ sym (product_right 4 (a * b))
      ∙ ap (λ t. min (4 * t) top) (ap (λ t. min (t * b) top) one ∙ product_left x b ∙ ap (λ t. min (x * t) top) two ∙ product_right x y)
      ∙ product_right 4 (x * y)

  pub test_kept : (leaves a b l x y : ℕ) → leaves ≡ min l top → a ≡ min x top → b ≡ min y top
      → min (min (min (min (a + b) top + 1) top * leaves) top * 2) top ≡ min (2 * (l * (x + y + 1))) top
  test_kept leaves a b l x y most one two =
      let sum : min (min (a + b) top + 1) top ≡ min (x + y + 1) top =
      sum_left (a + b) 1 ∙ ap (λ t. min (t + b + 1) top) one ∙ ap (λ t. min (min x top + t + 1) top) two ∙ (omega arith) in
      let product : min (min (min (a + b) top + 1) top * leaves) top ≡ min (l * (x + y + 1)) top =
      ap (λ t. min (t * leaves) top) sum ∙ product_left (x + y + 1) leaves ∙ ap (λ t. min ((x + y + 1) * t) top) most ∙ product_right (x + y + 1) l
      ∙ ap (λ t. min t top) (mul_comm (x + y + 1) l) in
      ap (λ t. min (t * 2) top) product ∙ product_left (l * (x + y + 1)) 2 ∙ ap (λ t. min t top) (mul_comm (l * (x + y + 1)) 2)

  pub leaves_kept : (count most m : ℕ) → most ≡ min m top → min (min (count * most) top + 1) top ≡ min (1 + count * m) top
  leaves_kept count most m is =
      sum_left (count * most) 1 ∙ ap (λ t. min (count * t + 1) top) is ∙ sym (sum_left (count * min m top) 1) ∙ ap (λ t. min (t + 1) top) (product_right count m)
      ∙ sum_left (count * m) 1 ∙ omega arith

  pub greater_kept : (a b x y : ℕ) → a ≡ min x top → b ≡ min y top → max a b ≡ min (max x y) top
  greater_kept a b x y one two = omega arith
