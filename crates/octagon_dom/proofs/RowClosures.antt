-- The closure of bounds with those that a row states.
use Rattle.std.proofs.Common.{◌≡◌, ◌≢◌, ⊎_elim, ℕ, ◌+◌, ◌*◌, ◌<◌, ℤ, pos, ◌+ℤ◌, ◌≤ℤ◌, ◌↔◌, Bool, true, false, eqb, cond, ◌&&◌}
use Rattle.std.proofs.Common.{List, Option, None, Some, arith, refl, sym, ◌∙◌, ap, subst}
use Rattle.std.proofs.lemmas.Bool.Decides.{eqb_tells}
use Rattle.std.proofs.lemmas.Int.{ints}
use Rattle.linear_cons.specs.declared.row.Row.{Row}
use Rattle.linear_cons.specs.Numbers.{Fits128}
use Rattle.num_domain.specs.declared.bound.Bound.{Bound}
use Rattle.std.proofs.lemmas.Int.{int_max_is}
use Rattle.std.specs.Int.{int_max}
use Rattle.num_domain.specs.Ends.{both_ends, some_end}
use Rattle.octagon_dom.specs.declared.stated.Stated.{Stated}
use Rattle.octagon_dom.specs.Cells.{AreCellsOf, Matrix, bound, cell, is_void, joined, least_end, tightened, turned}
use Rattle.octagon_dom.specs.Closure.{AreAtMost, ClosesRow, EntersClosed, FiveFit, HasNoClosed, IsAtMost, IsBoundOf, IsClosed, IsClosureOf}
use Rattle.octagon_dom.specs.Closure.{exact_sum, with_twins}
use Rattle.octagon_dom.specs.Laws.Members.{bound_same, turned_apart}
use Rattle.octagon_dom.specs.Stated.{IsStatedBy}
use Rattle.octagon_dom.proofs.Twins.{twins_first_is, twins_only, twins_other, twins_own, twins_second_is}
use Rattle.octagon_dom.proofs.Ways.{IsWay, IsNoMore, closed_of_ways, closed_way, within_more, within_or}
use Rattle.octagon_dom.proofs.Shortened.{bounds_by, tightened_short}

-- ends that the same numbers are within are the same
pub same_ends : (left right : Option ℤ) → ((z : ℤ) → IsNoMore left z → IsNoMore right z) → ((z : ℤ) → IsNoMore right z → IsNoMore left z)
    → left ≡ right
same_ends None None one two = refl
same_ends None (Some b) one two = absurd (two b (omega (arith, ints)))
same_ends (Some a) None one two = absurd (one a (omega (arith, ints)))
same_ends (Some a) (Some b) one two =
    let less : b ≤ℤ a = one a (omega (arith, ints)) in
    let more : a ≤ℤ b = two b (omega (arith, ints)) in
    let same : a ≡ b = omega (arith, ints) in
    ap Some same

-- ---- two matrices with the same bounds

module _ (m n : Matrix) (same : (a b : ℕ) → a < 32 → b < 32 → m a b ≡ n a b) where
  pub closed_same : IsClosed m → IsClosed n
  closed_same closed = record {
    diagonal = λ i h. sym (same i i h h) ∙ closed.diagonal i h;
    ways = λ i j k h g l.
        subst (λ e. IsAtMost e (exact_sum (n i k) (n k j))) (same i j h g)
        (subst (λ e. IsAtMost (m i j) (exact_sum e (n k j))) (same i k h l)
        (subst (λ e. IsAtMost (m i j) (exact_sum (m i k) e)) (same k j l g) (closed.ways i j k h g l)));
  }

  pub below_same : (x : Matrix) → AreAtMost x m → AreAtMost x n
  below_same x below a b h g = subst (λ e. IsAtMost (x a b) e) (same a b h g) (below a b h g)

  below_back : (x : Matrix) → AreAtMost x n → AreAtMost x m
  below_back x below a b h g = subst (λ e. IsAtMost (x a b) e) (sym (same a b h g)) (below a b h g)

  bound_back : (z : ℤ) → IsBoundOf n z → IsBoundOf m z
  bound_back z is = record {
    row = is.row;
    column = is.column;
    low = is.low;
    also = is.also;
    is = same is.row is.column is.low is.also ∙ is.is;
  }

  pub five_same : FiveFit m → FiveFit n
  five_same five v w x y z a b c d e =
      five v w x y z (bound_back v a) (bound_back w b) (bound_back x c) (bound_back y d) (bound_back z e)

  pub closure_same : (x : Matrix) → IsClosureOf m x → IsClosureOf n x
  closure_same x closure = record {
    closed = closure.closed;
    below = below_same x closure.below;
    greatest = λ o closed below. closure.greatest o closed (below_back o below);
  }

  pub none_same : HasNoClosed m → HasNoClosed n
  none_same none o closed below = none o closed (below_back o below)

  pub twins_same : (i j : ℕ) (end : Option ℤ) (a b : ℕ) → a < 32 → b < 32 → with_twins m i j end a b ≡ with_twins n i j end a b
  twins_same i j end a b h g =
      ap (λ e. cond (eqb a (turned j) && eqb b (turned i)) (least_end (cond (eqb a i && eqb b j) (least_end e end) e) end)
      (cond (eqb a i && eqb b j) (least_end e end) e)) (same a b h g)

-- ---- a number that doesn't fit is no bound

module _ (old : List (Bound ℤ)) (i j : ℕ) (c : ℤ) (low : i < 32) (also : j < 32) (apart : i ≢ j) (further : turned j < 32) (beyond : turned i < 32)
    (five : FiveFit (with_twins (bound old) i j (Some c))) (outside : Fits128 c → ⊥) where
  nought : IsBoundOf (with_twins (bound old) i j (Some c)) (pos 0)
  nought = record {
    row = i;
    column = i;
    low = low;
    also = low;
    is = twins_other (bound old) i j (Some c) i i (λ p q. apart q) (λ p q. turned_apart i (sym q)) ∙ bound_same old i i refl;
  }

  not_a_bound : IsBoundOf (with_twins (bound old) i j (Some c)) c → ⊥
  not_a_bound is =
      let sum : c +ℤ pos 0 +ℤ pos 0 +ℤ pos 0 +ℤ pos 0 ≡ c = omega (arith, ints) in
      outside (subst Fits128 sum (five c (pos 0) (pos 0) (pos 0) (pos 0) is nought nought nought nought))

  first_within : IsNoMore (bound old i j) c
  first_within = ⊎_elim
      (λ (within : IsNoMore (bound old i j) c). within)
      (λ (past : IsNoMore (bound old i j) c → ⊥). absurd (not_a_bound (record {
        row = i;
        column = j;
        low = low;
        also = also;
        is = twins_first_is (bound old) i j c past;
      })))
      (within_or (bound old i j) c)

  second_within : IsNoMore (bound old (turned j) (turned i)) c
  second_within = ⊎_elim
      (λ (within : IsNoMore (bound old (turned j) (turned i)) c). within)
      (λ (past : IsNoMore (bound old (turned j) (turned i)) c → ⊥). absurd (not_a_bound (record {
        row = turned j;
        column = turned i;
        low = further;
        also = beyond;
        is = twins_second_is (bound old) i j c past;
      })))
      (within_or (bound old (turned j) (turned i)) c)

  pub twins_missing : (a b : ℕ) → a < 32 → b < 32
      → with_twins (bound old) i j (Some c) a b ≡ with_twins (bound old) i j None a b
  twins_missing a b h g = same_ends (with_twins (bound old) i j (Some c) a b) (with_twins (bound old) i j None a b)
      (λ z within. twins_own (bound old) i j None a b z (⊎_elim
      (λ (own : IsNoMore (bound old a b) z). own)
      (λ either. ⊎_elim
      (λ (is : (a ≡ i) × (b ≡ j) × IsNoMore (Some c) z).
      subst (λ p. IsNoMore (bound old p b) z) (sym is.0) (subst (λ q. IsNoMore (bound old i q) z) (sym is.1)
      (within_more (bound old i j) c z first_within is.2)))
      (λ (is : (a ≡ turned j) × (b ≡ turned i) × IsNoMore (Some c) z).
      subst (λ p. IsNoMore (bound old p b) z) (sym is.0) (subst (λ q. IsNoMore (bound old (turned j) q) z) (sym is.1)
      (within_more (bound old (turned j) (turned i)) c z second_within is.2)))
      either)
      (twins_only (bound old) i j (Some c) a b z within)))
      (λ z within. twins_own (bound old) i j (Some c) a b z (⊎_elim
      (λ (own : IsNoMore (bound old a b) z). own)
      (λ either. ⊎_elim
      (λ (is : (a ≡ i) × (b ≡ j) × IsNoMore None z). absurd is.2)
      (λ (is : (a ≡ turned j) × (b ≡ turned i) × IsNoMore None z). absurd is.2)
      either)
      (twins_only (bound old) i j None a b z within)))

-- ---- rows

-- with a closure there is a closed matrix
not_none : (m x : Matrix) → IsClosureOf m x → HasNoClosed m → ⊥
not_none m x closure none = none x closure.closed closure.below

void_or : (m x : Matrix) (t : Bool) → (t ≡ true → HasNoClosed m) → (t ≡ false → IsClosureOf m x) → (t ≡ true) ↔ HasNoClosed m
void_or m x true none closure = (λ is. none is, λ h. refl)
void_or m x false none closure = (λ is. absurd (cc), λ h. absurd (not_none m x (closure refl) h))

pub row_closes : (row : Row) (stated : Stated) (old new : List (Bound ℤ)) → (turned stated.low) < 32 → (turned stated.high) < 32
    → IsStatedBy row stated → EntersClosed old stated new → ClosesRow row old new
row_closes row stated old new further beyond states enters = chosen (some_end stated.step) refl
  where
    W : Option ℤ → Matrix
    W end = with_twins (bound old) stated.high stated.low end

    closes : (IsClosed (bound old) → FiveFit (W (Some states.most)) → is_void new ≡ true → HasNoClosed (W (Some states.most)))
        → (IsClosed (bound old) → FiveFit (W (Some states.most)) → is_void new ≡ false → IsClosureOf (W (Some states.most)) (bound new))
        → ClosesRow row old new
    closes none closure = record {
      high = stated.high;
      low = stated.low;
      most = states.most;
      states = states.states;
      empty = λ closed five. void_or (W (Some states.most)) (bound new) (is_void new) (none closed five) (closure closed five);
      closure = closure;
    }

    chosen : (end : Option ℤ) → some_end stated.step ≡ end → ClosesRow row old new
    chosen (Some end) is =
        let same : some_end stated.step ≡ Some states.most = is ∙ ap Some (states.known end is) in
        closes (λ closed five void. subst (λ e. HasNoClosed (W e)) same (enters.none void))
        (subst (λ e. IsClosed (bound old) → FiveFit (W e) → is_void new ≡ false → IsClosureOf (W e) (bound new)) same enters.closure)
    chosen None is = closes
        (λ closed five void. none_same (W None) (W (Some states.most)) (back five)
        (subst (λ e. HasNoClosed (W e)) is (enters.none void)))
        (λ closed five filled. closure_same (W None) (W (Some states.most)) (back five) (bound new)
        (subst (λ e. IsClosed (bound old) → FiveFit (W e) → is_void new ≡ false → IsClosureOf (W e) (bound new)) is enters.closure
        closed (five_same (W (Some states.most)) (W None) (λ a b h g. sym (back five a b h g)) five) filled))
      where
        outside : Fits128 states.most → ⊥
        outside fit = let other = sym is ∙ states.told fit in absurd (cc)

        back : FiveFit (W (Some states.most)) → (a b : ℕ) → a < 32 → b < 32 → W None a b ≡ W (Some states.most) a b
        back five a b h g = sym (twins_missing old stated.high stated.low states.most states.states.from states.states.to
            states.states.apart further beyond five outside a b h g)

-- ---- bounds that were closed before

-- passing a signed place shortens no closed bounds
pub passed_stays : (old new : List (Bound ℤ)) (k : ℕ) → k < 32 → AreCellsOf (tightened old k k (Some (pos 0))) new → IsClosed (bound old)
    → (a b : ℕ) → a < 32 → b < 32 → bound new a b ≡ bound old a b
passed_stays old new k low are closed a b h g = same_ends (bound new a b) (bound old a b)
    (λ z within. ⊎_elim
    (λ (own : IsNoMore (bound old a b) z). own)
    (λ (way : IsWay (bound old) k k (Some (pos 0)) a b z).
    let sum = way.sum in
    let step = way.second in
    closed_way (bound old) closed a b k h g low way.into way.out z way.first way.third (omega (arith, ints)))
    ((tightened_short old new k k (Some (pos 0)) low low are).only a b h g z within))
    (λ z within. (tightened_short old new k k (Some (pos 0)) low low are).own a b h g z within)

pub closes_from : (row : Row) (old between new : List (Bound ℤ))
    → (IsClosed (bound old) → (a b : ℕ) → a < 32 → b < 32 → bound between a b ≡ bound old a b)
    → ClosesRow row between new → ClosesRow row old new
closes_from row old between new stays closes = record {
  high = closes.high;
  low = closes.low;
  most = closes.most;
  states = closes.states;
  empty = λ closed five.
      let found = closes.empty (before closed) (five_same W V (λ a b h g. sym (both closed a b h g)) five) in
      (λ void. none_same V W (both closed) (found.0 void), λ none. found.1 (none_same W V (λ a b h g. sym (both closed a b h g)) none));
  closure = λ closed five filled. closure_same V W (both closed) (bound new)
      (closes.closure (before closed) (five_same W V (λ a b h g. sym (both closed a b h g)) five) filled);
}
  where
    V : Matrix
    V = with_twins (bound between) closes.high closes.low (Some closes.most)

    W : Matrix
    W = with_twins (bound old) closes.high closes.low (Some closes.most)

    before : IsClosed (bound old) → IsClosed (bound between)
    before closed = closed_same (bound old) (bound between) (λ a b h g. sym (stays closed a b h g)) closed

    both : IsClosed (bound old) → (a b : ℕ) → a < 32 → b < 32 → V a b ≡ W a b
    both closed = twins_same (bound between) (bound old) (stays closed) closes.high closes.low (Some closes.most)

-- ---- the greater of two

greater_left : (left right : Option ℤ) (z : ℤ) → IsNoMore (both_ends int_max left right) z → IsNoMore left z
greater_left None right z h = absurd h
greater_left (Some a) None z h = absurd h
greater_left (Some a) (Some b) z h = omega (arith, ints, int_max_is a b)

greater_right : (left right : Option ℤ) (z : ℤ) → IsNoMore (both_ends int_max left right) z → IsNoMore right z
greater_right None right z h = absurd h
greater_right (Some a) None z h = absurd h
greater_right (Some a) (Some b) z h = omega (arith, ints, int_max_is a b)

greater_both : (left right : Option ℤ) (z : ℤ) → IsNoMore left z → IsNoMore right z → IsNoMore (both_ends int_max left right) z
greater_both None right z h g = absurd h
greater_both (Some a) None z h g = absurd g
greater_both (Some a) (Some b) z h g = omega (arith, ints, int_max_is a b)

module _ (own other new : List (Bound ℤ)) (are : AreCellsOf (joined own other) new) where
  joined_left : (a b : ℕ) → a < 32 → b < 32 → (z : ℤ) → IsNoMore (bound new a b) z → IsNoMore (bound own a b) z
  joined_left a b h g z = bounds_by own new a b (λ was now. IsNoMore now z → IsNoMore was z) (λ same within. within)
      (λ apart within. greater_left (cell own (32 * a + b)) (cell other (32 * a + b)) z
      (subst (λ end. IsNoMore end z) (are.each a b h g) within))

  joined_right : (a b : ℕ) → a < 32 → b < 32 → (z : ℤ) → IsNoMore (bound new a b) z → IsNoMore (bound other a b) z
  joined_right a b h g z = bounds_by other new a b (λ was now. IsNoMore now z → IsNoMore was z) (λ same within. within)
      (λ apart within. greater_right (cell own (32 * a + b)) (cell other (32 * a + b)) z
      (subst (λ end. IsNoMore end z) (are.each a b h g) within))

  joined_both : (a b : ℕ) → a < 32 → b < 32 → (z : ℤ) → IsNoMore (bound own a b) z → IsNoMore (bound other a b) z → IsNoMore (bound new a b) z
  joined_both a b h g z one two = ⊎_elim
      (λ (same : (eqb a b ≡ true) × (a ≡ b)). subst (λ t. IsNoMore (cond t (Some (pos 0)) (cell new (32 * a + b))) z) (sym same.0)
      (subst (λ t. IsNoMore (cond t (Some (pos 0)) (cell own (32 * a + b))) z) same.0 one))
      (λ (apart : (eqb a b ≡ false) × (a ≢ b)). subst (λ t. IsNoMore (cond t (Some (pos 0)) (cell new (32 * a + b))) z) (sym apart.0)
      (subst (λ end. IsNoMore end z) (sym (are.each a b h g))
      (greater_both (cell own (32 * a + b)) (cell other (32 * a + b)) z
      (subst (λ t. IsNoMore (cond t (Some (pos 0)) (cell own (32 * a + b))) z) apart.0 one)
      (subst (λ t. IsNoMore (cond t (Some (pos 0)) (cell other (32 * a + b))) z) apart.0 two))))
      (eqb_tells a b)

  pub joined_bounds : (a b : ℕ) → a < 32 → b < 32 → bound new a b ≡ both_ends int_max (bound own a b) (bound other a b)
  joined_bounds a b h g = same_ends (bound new a b) (both_ends int_max (bound own a b) (bound other a b))
      (λ z within. greater_both (bound own a b) (bound other a b) z (joined_left a b h g z within) (joined_right a b h g z within))
      (λ z within. joined_both a b h g z (greater_left (bound own a b) (bound other a b) z within)
      (greater_right (bound own a b) (bound other a b) z within))

  pub joined_closed : IsClosed (bound own) → IsClosed (bound other) → IsClosed (bound new)
  joined_closed left right = closed_of_ways (bound new) (λ i h. bound_same new i i refl) (λ a b k h g l x y first second.
      joined_both a b h g (x +ℤ y)
      (closed_way (bound own) left a b k h g l x y (x +ℤ y) (joined_left a k h l x first) (joined_left k b l g y second) (omega (arith, ints)))
      (closed_way (bound other) right a b k h g l x y (x +ℤ y) (joined_right a k h l x first) (joined_right k b l g y second)
      (omega (arith, ints))))

-- ---- no bounds at all

pub none_closed : (cells : List (Bound ℤ)) → ((k : ℕ) → cell cells k ≡ None) → IsClosed (bound cells)
none_closed cells none = closed_of_ways (bound cells) (λ i h. bound_same cells i i refl) (λ a b k h g l x y first second. ⊎_elim
    (λ (same : (eqb a k ≡ true) × (a ≡ k)).
    let zero : pos 0 ≤ℤ x = subst (λ t. IsNoMore (cond t (Some (pos 0)) (cell cells (32 * a + k))) x) same.0 first in
    within_more (bound cells a b) y (x +ℤ y) (subst (λ t. IsNoMore (bound cells t b) y) (sym same.1) second) (omega (arith, ints)))
    (λ (apart : (eqb a k ≡ false) × (a ≢ k)).
    absurd (subst (λ end. IsNoMore end x) (none (32 * a + k))
    (subst (λ t. IsNoMore (cond t (Some (pos 0)) (cell cells (32 * a + k))) x) apart.0 first)))
    (eqb_tells a k))
