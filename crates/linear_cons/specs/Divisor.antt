-- Common divisors of the coefficients at the sixteen places.
use Rattle.std.specs.Prelude.{◌≡◌, ℕ, zero, suc, ◌<◌, ◌%◌, ◌==◌, List, ℤ, unsigned_abs, if◌then◌else◌}
use Rattle.std.specs.Int.{◌∣◌}
use Rattle.linear_cons.specs.Numbers.{number_at}

-- d divides the number at each of the sixteen places
abbrev pub DividesAll : ℕ → List ℤ → Type 0
DividesAll d xs = (i : ℕ) → i < 16 → d ∣ unsigned_abs (number_at xs i)

-- g is the greatest common divisor of the sixteen numbers, and 0 where all of them are 0
pub record IsDivisorOf (xs : List ℤ) (g : ℕ) : Type 0 where
  pub divides : DividesAll g xs
  pub greatest : (d : ℕ) → DividesAll d xs → d ∣ g

-- Euclid's algorithm in so many steps
abbrev pub gcd_within : ℕ → ℕ → ℕ → ℕ
gcd_within zero a b = a
gcd_within (suc steps) a b = if b == 0 then a else gcd_within steps b (a % b)

-- the greatest common divisor of two numbers: the remainders fall, so b steps are enough
abbrev pub gcd : ℕ → ℕ → ℕ
gcd a b = gcd_within b a b

-- the greatest common divisor of the numbers at the places below n, 0 where all of them are 0
unfoldable pub divisor_below : ℕ → List ℤ → ℕ
divisor_below zero xs = 0
divisor_below (suc n) xs = gcd (unsigned_abs (number_at xs n)) (divisor_below n xs)

-- that of all sixteen
abbrev pub divisor_of : List ℤ → ℕ
divisor_of xs = divisor_below 16 xs

-- What follows has no part in the headline.

-- the greatest common divisor is 1: no other number divides all sixteen
abbrev pub IsPrimitive : List ℤ → Type 0
IsPrimitive xs = (d : ℕ) → DividesAll d xs → d ≡ 1
