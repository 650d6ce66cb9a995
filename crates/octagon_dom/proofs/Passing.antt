-- Passing signed places one after the other: bounds closed over those that were passed.
use Rattle.std.proofs.Common.{◌≡◌, ⊎_elim, ℕ, ◌+◌, ◌<◌, ◌≤◌, ℤ, pos, ◌+ℤ◌, ◌≤ℤ◌, Some, arith, subst}
use Rattle.std.proofs.lemmas.Bool.{cases_lt}
use Rattle.std.proofs.lemmas.Int.{ints}
use Rattle.octagon_dom.specs.Cells.{Matrix}
use Rattle.octagon_dom.specs.Closure.{IsClosed}
use Rattle.octagon_dom.proofs.Ways.{HasWays, IsShortened, IsWay, IsNoMore, closed_of_ways, within_more}

abbrev pub IsClosedOver : ℕ → Matrix → Type 0
IsClosedOver n m = (a b k : ℕ) → a < 32 → b < 32 → k < n → (x y : ℤ) → IsNoMore (m a k) x → IsNoMore (m k b) y → IsNoMore (m a b) (x +ℤ y)

pub over_none : (m : Matrix) → IsClosedOver 0 m
over_none m a b k h g l x y first second = absurd (omega arith)

pub over_all : (m : Matrix) → ((i : ℕ) → i < 32 → m i i ≡ Some (pos 0)) → IsClosedOver 32 m → IsClosed m
over_all m diagonal over = closed_of_ways m diagonal (λ a b k h g l x y first second. over a b k h g l x y first second)

-- no two opposite bounds sum below 0
abbrev pub HasNoNegative : Matrix → Type 0
HasNoNegative m = (a b : ℕ) → a < 32 → b < 32 → (x y : ℤ) → IsNoMore (m a b) x → IsNoMore (m b a) y → pos 0 ≤ℤ (x +ℤ y)

module _ (n : ℕ) (old new : Matrix) (low : n < 32) (diagonal : (i : ℕ) → i < 32 → old i i ≡ Some (pos 0)) (over : IsClosedOver n old)
    (short : IsShortened old n n (Some (pos 0)) new) (ways : HasWays old n n (Some (pos 0)) new) (natural : HasNoNegative new) where
  -- the bounds of the place that is passed are the old ones
  column : (a : ℕ) → a < 32 → (x : ℤ) → IsNoMore (new a n) x → IsNoMore (old a n) x
  column a h x within = ⊎_elim
      (λ (own : IsNoMore (old a n) x). own)
      (λ (way : IsWay old n n (Some (pos 0)) a n x).
      let step = way.second in
      let own : pos 0 ≤ℤ way.out = subst (λ e. IsNoMore e way.out) (diagonal n low) way.third in
      let sum = way.sum in
      within_more (old a n) way.into x way.first (omega (arith, ints)))
      (short.only a n h low x within)

  line : (b : ℕ) → b < 32 → (y : ℤ) → IsNoMore (new n b) y → IsNoMore (old n b) y
  line b g y within = ⊎_elim
      (λ (own : IsNoMore (old n b) y). own)
      (λ (way : IsWay old n n (Some (pos 0)) n b y).
      let step = way.second in
      let own : pos 0 ≤ℤ way.into = subst (λ e. IsNoMore e way.into) (diagonal n low) way.first in
      let sum = way.sum in
      within_more (old n b) way.out y way.third (omega (arith, ints)))
      (short.only n b low g y within)

  before : (a b k : ℕ) → a < 32 → b < 32 → k < n → (x y : ℤ) → IsNoMore (new a k) x → IsNoMore (new k b) y → IsNoMore (new a b) (x +ℤ y)
  before a b k h g l x y first second = ⊎_elim
      (λ (one : IsNoMore (old a k) x). ⊎_elim
      (λ (two : IsNoMore (old k b) y). short.own a b h g (x +ℤ y) (over a b k h g l x y one two))
      (λ (way : IsWay old n n (Some (pos 0)) k b y).
      let last = way.sum in
      ways a b h g (x +ℤ y) (record {
        into = x +ℤ way.into;
        over = way.over;
        out = way.out;
        first = over a n k h low l x way.into one way.first;
        second = way.second;
        third = way.third;
        sum = omega (arith, ints);
      }))
      (short.only k b inside g y second))
      (λ (way : IsWay old n n (Some (pos 0)) a k x). ⊎_elim
      (λ (two : IsNoMore (old k b) y).
      let last = way.sum in
      ways a b h g (x +ℤ y) (record {
        into = way.into;
        over = way.over;
        out = way.out +ℤ y;
        first = way.first;
        second = way.second;
        third = over n b k low g l way.out y way.third two;
        sum = omega (arith, ints);
      }))
      (λ (next : IsWay old n n (Some (pos 0)) k b y).
      let last = way.sum in
      let most = next.sum in
      let step = next.second in
      let round = natural n k low inside way.out next.into (short.own n k low inside way.out way.third)
      (short.own k n inside low next.into next.first) in
      ways a b h g (x +ℤ y) (record {
        into = way.into;
        over = way.over;
        out = next.out;
        first = way.first;
        second = way.second;
        third = next.third;
        sum = omega (arith, ints);
      }))
      (short.only k b inside g y second))
      (short.only a k h inside x first)
    where
      inside : k < 32
      inside = omega arith

  pub over_more : IsClosedOver (n + 1) new
  over_more a b k h g l x y first second = ⊎_elim
      (λ (less : k < n). before a b k h g less x y first second)
      (λ (from : n ≤ k).
      let same : k ≡ n = omega arith in
      ways a b h g (x +ℤ y) (record {
        into = x;
        over = pos 0;
        out = y;
        first = column a h x (subst (λ t. IsNoMore (new a t) x) same first);
        second = omega (arith, ints);
        third = line b g y (subst (λ t. IsNoMore (new t b) y) same second);
        sum = omega (arith, ints);
      }))
      (cases_lt k n)
