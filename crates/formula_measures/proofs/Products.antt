-- Products of three numbers that are kept up to a greatest one.
use Rattle.std.proofs.Common.{◌≡◌, ℕ, ◌*◌, ◌≤◌, min, ap, ◌∙◌}
use Rattle.std.proofs.Math.Nat.{mul_comm}
use Rattle.control_flow.proofs.Held.{product_left, product_right}

module _ (top : ℕ) (some : 1 ≤ top) where
  pub until_kept : (a b c x y z : ℕ) → a ≡ min x top → b ≡ min y top → c ≡ min z top
      → min (min (min (a * b) top * c) top * 16) top ≡ min (16 * (x * y * z)) top
  until_kept a b c x y z one two three =
      let pair : min (a * b) top ≡ min (x * y) top =
      ap (λ t. min (t * b) top) one ∙ product_left top some x b ∙ ap (λ t. min (x * t) top) two ∙ product_right top some x y in
      let all : min (min (a * b) top * c) top ≡ min (x * y * z) top =
      ap (λ t. min (t * c) top) pair ∙ product_left top some (x * y) c ∙ ap (λ t. min (x * y * t) top) three ∙ product_right top some (x * y) z in
      ap (λ t. min (t * 16) top) all ∙ product_left top some (x * y * z) 16 ∙ ap (λ t. min t top) (mul_comm (x * y * z) 16)
