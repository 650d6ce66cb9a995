-- Bounds as ways. A number is within an end where the end is there and at most the number.
use Rattle.std.proofs.Common.{◌≡◌, ⊎_elim, inl, inr, ◌⊎◌, ℕ, ◌<◌, ℤ, pos, ◌+ℤ◌, ◌≤ℤ◌, Bool, true, false, int_le, int_lt, cond}
use Rattle.std.proofs.Common.{Option, None, Some, arith, refl, subst}
use Rattle.std.proofs.lemmas.Int.{ints}
use Rattle.linear_cons.specs.Ends.{fits}
use Rattle.linear_cons.specs.Numbers.{Fits128}
use Rattle.linear_cons.proofs.KnownEnds.{known_end}
use Rattle.octagon_dom.specs.Cells.{Matrix, least_end, sum_end}
use Rattle.octagon_dom.specs.Closure.{IsAtMost, IsClosed, exact_sum}

abbrev pub IsNoMore : Option ℤ → ℤ → Type 0
IsNoMore None z = ⊥
IsNoMore (Some a) z = a ≤ℤ z

pub within_more : (end : Option ℤ) (z w : ℤ) → IsNoMore end z → z ≤ℤ w → IsNoMore end w
within_more None z w h more = h
within_more (Some a) z w h more = omega (arith, ints)

-- the end that a number is within
pub within_some : (end : Option ℤ) (z : ℤ) → IsNoMore end z → (a : ℤ) × (end ≡ Some a) × (a ≤ℤ z)
within_some None z h = absurd h
within_some (Some a) z h = (a, refl, h)

pub within_or : (end : Option ℤ) (c : ℤ) → IsNoMore end c ⊎ (IsNoMore end c → ⊥)
within_or None c = inr (λ h. h)
within_or (Some a) c = chosen (int_lt c a) refl
  where
    chosen : (t : Bool) → int_lt c a ≡ t → IsNoMore (Some a) c ⊎ (IsNoMore (Some a) c → ⊥)
    chosen true is = inr (λ h. absurd (omega (arith, ints)))
    chosen false is = inl (omega (arith, ints))

in_order : (a b : ℤ) → int_le a b ≡ true → a ≤ℤ b
in_order a b is = omega (arith, ints)

order_in : (a b : ℤ) → a ≤ℤ b → int_le a b ≡ true
order_in a b least = chosen (int_le a b) refl
  where
    chosen : (t : Bool) → int_le a b ≡ t → int_le a b ≡ true
    chosen true is = is
    chosen false is = absurd (omega (arith, ints))

pub at_most_within : (left right : Option ℤ) (z : ℤ) → IsAtMost left right → IsNoMore right z → IsNoMore left z
at_most_within left None z most h = absurd h
at_most_within None (Some b) z most h = absurd (cc)
at_most_within (Some a) (Some b) z most h = let least = in_order a b most in omega (arith, ints)

pub within_at_most : (left right : Option ℤ) → ((z : ℤ) → IsNoMore right z → IsNoMore left z) → IsAtMost left right
within_at_most left None all = refl
within_at_most None (Some b) all = absurd (all b (omega (arith, ints)))
within_at_most (Some a) (Some b) all = order_in a b (all b (omega (arith, ints)))

-- ---- sums and the smaller of two

pub within_sum : (left right : Option ℤ) (x y z : ℤ) → IsNoMore left x → IsNoMore right y → (x +ℤ y) ≤ℤ z
    → IsNoMore (exact_sum left right) z
within_sum None right x y z first second sum = absurd first
within_sum (Some a) None x y z first second sum = absurd second
within_sum (Some a) (Some b) x y z first second sum = omega (arith, ints)

pub sum_within : (left right : Option ℤ) (z : ℤ) → IsNoMore (exact_sum left right) z
    → (x : ℤ) × (y : ℤ) × IsNoMore left x × IsNoMore right y × ((x +ℤ y) ≤ℤ z)
sum_within None right z h = absurd h
sum_within (Some a) None z h = absurd h
sum_within (Some a) (Some b) z h = (a, b, omega (arith, ints), omega (arith, ints), h)

-- a sum that is missing where it doesn't fit
pub sum_end_within : (left right : Option ℤ) (z : ℤ) → IsNoMore (sum_end left right) z
    → (x : ℤ) × (y : ℤ) × IsNoMore left x × IsNoMore right y × ((x +ℤ y) ≤ℤ z)
sum_end_within None right z h = absurd h
sum_end_within (Some a) None z h = absurd h
sum_end_within (Some a) (Some b) z h = (a, b, omega (arith, ints), omega (arith, ints), chosen (fits (a +ℤ b)) h)
  where
    chosen : (t : Bool) → IsNoMore (cond t (Some (a +ℤ b)) None) z → (a +ℤ b) ≤ℤ z
    chosen true is = is
    chosen false is = absurd is

pub sum_end_is : (left right : Option ℤ) (x y : ℤ) → left ≡ Some x → right ≡ Some y → Fits128 (x +ℤ y) → sum_end left right ≡ Some (x +ℤ y)
sum_end_is left right x y is also fit = rw (is, also) (known_end (x +ℤ y) fit)

pub within_least_left : (left right : Option ℤ) (z : ℤ) → IsNoMore left z → IsNoMore (least_end left right) z
within_least_left None right z h = absurd h
within_least_left (Some a) None z h = h
within_least_left (Some a) (Some b) z h = chosen (int_lt b a) refl
  where
    chosen : (t : Bool) → int_lt b a ≡ t → (cond t b a) ≤ℤ z
    chosen true is = omega (arith, ints)
    chosen false is = h

pub within_least_right : (left right : Option ℤ) (z : ℤ) → IsNoMore right z → IsNoMore (least_end left right) z
within_least_right None right z h = h
within_least_right (Some a) None z h = absurd h
within_least_right (Some a) (Some b) z h = chosen (int_lt b a) refl
  where
    chosen : (t : Bool) → int_lt b a ≡ t → (cond t b a) ≤ℤ z
    chosen true is = h
    chosen false is = omega (arith, ints)

pub least_within : (left right : Option ℤ) (z : ℤ) → IsNoMore (least_end left right) z → IsNoMore left z ⊎ IsNoMore right z
least_within None right z h = inr h
least_within (Some a) None z h = inl h
least_within (Some a) (Some b) z h = chosen (int_lt b a) h
  where
    chosen : (t : Bool) → (cond t b a) ≤ℤ z → IsNoMore (Some a) z ⊎ IsNoMore (Some b) z
    chosen true is = inr is
    chosen false is = inl is

-- a number that isn't within the end is the smaller of the two
pub least_is : (end : Option ℤ) (c : ℤ) → (IsNoMore end c → ⊥) → least_end end (Some c) ≡ Some c
least_is None c past = refl
least_is (Some a) c past = chosen (int_lt c a) refl
  where
    chosen : (t : Bool) → int_lt c a ≡ t → Some (cond t c a) ≡ Some c
    chosen true is = refl
    chosen false is = absurd (past (omega (arith, ints)))

-- ---- closed matrices

pub closed_way : (m : Matrix) → IsClosed m → (i j k : ℕ) → i < 32 → j < 32 → k < 32 → (x y z : ℤ) → IsNoMore (m i k) x
    → IsNoMore (m k j) y → (x +ℤ y) ≤ℤ z → IsNoMore (m i j) z
closed_way m closed i j k h g l x y z first second sum =
    at_most_within (m i j) (exact_sum (m i k) (m k j)) z (closed.ways i j k h g l)
    (within_sum (m i k) (m k j) x y z first second sum)

pub closed_cycle : (m : Matrix) → IsClosed m → (i j : ℕ) → i < 32 → j < 32 → (x y : ℤ) → IsNoMore (m i j) x → IsNoMore (m j i) y
    → pos 0 ≤ℤ (x +ℤ y)
closed_cycle m closed i j h g x y first second =
    subst (λ end. IsNoMore end (x +ℤ y)) (closed.diagonal i h)
    (closed_way m closed i i j h h g x y (x +ℤ y) first second (omega (arith, ints)))

pub closed_of_ways : (m : Matrix) → ((i : ℕ) → i < 32 → m i i ≡ Some (pos 0))
    → ((i j k : ℕ) → i < 32 → j < 32 → k < 32 → (x y : ℤ) → IsNoMore (m i k) x → IsNoMore (m k j) y → IsNoMore (m i j) (x +ℤ y))
    → IsClosed m
closed_of_ways m diagonal each = record {
  diagonal = diagonal;
  ways = λ i j k h g l. within_at_most (m i j) (exact_sum (m i k) (m k j)) (λ z within.
      let parts = sum_within (m i k) (m k j) z within in
      within_more (m i j) (parts.0 +ℤ parts.1) z (each i j k h g l parts.0 parts.1 parts.2 parts.3) parts.4);
}

-- ---- a matrix shortened over a step

-- a way from a to i, over the step to j, and from there to b
pub record IsWay (m : Matrix) (i j : ℕ) (step : Option ℤ) (a b : ℕ) (z : ℤ) : Type 0 where
  pub into : ℤ
  pub over : ℤ
  pub out : ℤ
  pub first : IsNoMore (m a i) into
  pub second : IsNoMore step over
  pub third : IsNoMore (m j b) out
  pub sum : (into +ℤ over +ℤ out) ≤ℤ z

-- each new bound is an old one or a way over the step
pub record IsShortened (old : Matrix) (i j : ℕ) (step : Option ℤ) (new : Matrix) : Type 0 where
  pub diagonal : (a : ℕ) → a < 32 → new a a ≡ Some (pos 0)
  pub own : (a b : ℕ) → a < 32 → b < 32 → (z : ℤ) → IsNoMore (old a b) z → IsNoMore (new a b) z
  pub only : (a b : ℕ) → a < 32 → b < 32 → (z : ℤ) → IsNoMore (new a b) z → IsNoMore (old a b) z ⊎ IsWay old i j step a b z

-- no way over the step is shorter
abbrev pub HasWays : Matrix → ℕ → ℕ → Option ℤ → Matrix → Type 0
HasWays old i j step new = (a b : ℕ) → a < 32 → b < 32 → (z : ℤ) → IsWay old i j step a b z → IsNoMore (new a b) z

-- the step and the way back are no cycle below 0
abbrev pub HasNoCycle : Matrix → ℕ → ℕ → Option ℤ → Type 0
HasNoCycle old i j step = (y s : ℤ) → IsNoMore (old j i) y → IsNoMore step s → pos 0 ≤ℤ (y +ℤ s)

module _ (old new : Matrix) (i j : ℕ) (step : Option ℤ) (low : i < 32) (also : j < 32) where
  pub shortened_closed : IsClosed old → HasNoCycle old i j step → IsShortened old i j step new → HasWays old i j step new → IsClosed new
  shortened_closed closed cycle short ways = closed_of_ways new short.diagonal (λ a b k h g l x y first second. ⊎_elim
      (λ (one : IsNoMore (old a k) x). ⊎_elim
      (λ (two : IsNoMore (old k b) y). short.own a b h g (x +ℤ y)
      (closed_way old closed a b k h g l x y (x +ℤ y) one two (omega (arith, ints))))
      (λ (way : IsWay old i j step k b y).
      let last = way.sum in
      ways a b h g (x +ℤ y) (record {
        into = x +ℤ way.into;
        over = way.over;
        out = way.out;
        first = closed_way old closed a i k h low l x way.into (x +ℤ way.into) one way.first (omega (arith, ints));
        second = way.second;
        third = way.third;
        sum = omega (arith, ints);
      }))
      (short.only k b l g y second))
      (λ (way : IsWay old i j step a k x). ⊎_elim
      (λ (two : IsNoMore (old k b) y).
      let last = way.sum in
      ways a b h g (x +ℤ y) (record {
        into = way.into;
        over = way.over;
        out = way.out +ℤ y;
        first = way.first;
        second = way.second;
        third = closed_way old closed j b k also g l way.out y (way.out +ℤ y) way.third two (omega (arith, ints));
        sum = omega (arith, ints);
      }))
      (λ (next : IsWay old i j step k b y).
      let last = way.sum in
      let most = next.sum in
      let round = cycle (way.out +ℤ next.into) way.over
      (closed_way old closed j i k also low l way.out next.into (way.out +ℤ next.into) way.third next.first (omega (arith, ints)))
      way.second in
      ways a b h g (x +ℤ y) (record {
        into = way.into;
        over = next.over;
        out = next.out;
        first = way.first;
        second = next.second;
        third = next.third;
        sum = omega (arith, ints);
      }))
      (short.only k b l g y second))
      (short.only a k h l x first))

  -- a closed matrix that keeps to the old bounds and to the step keeps to the new ones
  pub shortened_greatest : (n : Matrix) → IsClosed n
      → ((a b : ℕ) → a < 32 → b < 32 → (z : ℤ) → IsNoMore (old a b) z → IsNoMore (n a b) z)
      → ((z : ℤ) → IsNoMore step z → IsNoMore (n i j) z) → IsShortened old i j step new
      → (a b : ℕ) → a < 32 → b < 32 → (z : ℤ) → IsNoMore (new a b) z → IsNoMore (n a b) z
  shortened_greatest n closed keeps steps short a b h g z within = ⊎_elim
      (λ (own : IsNoMore (old a b) z). keeps a b h g z own)
      (λ (way : IsWay old i j step a b z).
      closed_way n closed a b j h g also (way.into +ℤ way.over) way.out z
      (closed_way n closed a j i h also low way.into way.over (way.into +ℤ way.over) (keeps a i h low way.into way.first)
      (steps way.over way.second) (omega (arith, ints)))
      (keeps j b also g way.out way.third) way.sum)
      (short.only a b h g z within)
