-- A cell that contradicts its opposite leaves no store.
use Rattle.std.proofs.Common.{◌≡◌, ℕ, zero, suc, ◌/◌, ◌%◌, ◌<◌, ◌≤◌, ℤ, pos, ◌-ℤ◌, Bool, true, false, ◌||◌, List, Option, None, Some, arith}
use Rattle.std.proofs.Common.{refl}
use Rattle.std.proofs.lemmas.Int.{ints}
use Rattle.linear_cons.specs.Bounds.{IsUpTo}
use Rattle.linear_cons.proofs.EndLaws.{up_to_same}
use Rattle.num_domain.specs.declared.bound.Bound.{Bound}
use Rattle.octagon_dom.specs.Cells.{IsBelow, bound, is_negative, signed, void_below}

-- two ends that sum below 0 leave no number
pub negative_none : (left right : Option ℤ) (z : ℤ) → is_negative left right ≡ true → IsUpTo left z → IsUpTo right (pos 0 -ℤ z) → ⊥
negative_none None right z is h g = absurd (cc)
negative_none (Some a) None z is h g = absurd (cc)
negative_none (Some a) (Some b) z is h g = omega (arith, ints)

either : (a b : Bool) (P : Type 0) → (a || b) ≡ true → (a ≡ true → P) → (b ≡ true → P) → P
either true b P is left right = left refl
either false b P is left right = right is

pub void_below_none : (n : ℕ) (cells : List (Bound ℤ)) (store : List ℤ) → n ≤ 1024 → void_below n cells ≡ true → IsBelow cells store → ⊥
unfolding void_below
void_below_none zero cells store few is below = absurd (cc)
void_below_none (suc n) cells store few is below = either (void_below n cells) _ ⊥ is
    (λ before. void_below_none n cells store (omega arith) before below)
    (λ here.
    let row : n / 32 < 32 = omega arith in
    let column : n % 32 < 32 = omega arith in
    negative_none (bound cells (n / 32) (n % 32)) (bound cells (n % 32) (n / 32)) (signed store (n / 32) -ℤ signed store (n % 32)) here
    (below (n / 32) (n % 32) row column)
    (up_to_same (bound cells (n % 32) (n / 32)) _ _ (omega (arith, ints)) (below (n % 32) (n / 32) column row)))
