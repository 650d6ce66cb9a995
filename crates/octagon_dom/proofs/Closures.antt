-- A bound and its twin, entered into closed cells: what comes out is the closure of the bounds with both.
use Rattle.std.proofs.Common.{◌≡◌, ◌≢◌, ⊎_elim, inl, inr, ◌⊎◌, ℕ, ◌<◌, ℤ, pos, ◌+ℤ◌, ◌≤ℤ◌, ◌<ℤ◌, Bool, true, false}
use Rattle.std.proofs.Common.{List, Option, None, Some, arith, refl, sym, ◌∙◌, ap, subst}
use Rattle.std.proofs.lemmas.Int.{ints}
use Rattle.linear_cons.specs.Numbers.{Fits128}
use Rattle.num_domain.specs.declared.bound.Bound.{Bound}
use Rattle.octagon_dom.specs.Cells.{AreCellsOf, Matrix, bound, is_negative, is_void, tightened, turned}
use Rattle.octagon_dom.specs.Closure.{AreAtMost, FiveFit, HasNoClosed, HasNoShorterWay, IsBoundOf, IsClosed, IsClosureOf, KeepsClosed, SumsFit}
use Rattle.octagon_dom.specs.Closure.{with_twins}
use Rattle.octagon_dom.specs.Laws.Members.{bound_same, turned_apart, turned_low, turned_twice}
use Rattle.octagon_dom.proofs.Shortened.{WaysFit, tightened_short, tightened_step, tightened_ways}
use Rattle.octagon_dom.proofs.Twins.{twins_first, twins_first_is, twins_only, twins_other, twins_own, twins_second, twins_second_is}
use Rattle.octagon_dom.proofs.Voids.{no_negative, some_negative}
use Rattle.octagon_dom.proofs.Ways.{HasNoCycle, HasWays, IsShortened, IsWay, IsNoMore, at_most_within, closed_cycle, closed_way}
use Rattle.octagon_dom.proofs.Ways.{shortened_closed, shortened_greatest, within_at_most, within_or, within_some}

within_is : (end : Option ℤ) (x : ℤ) → end ≡ Some x → IsNoMore end x
within_is end x is = rw is (omega (arith, ints))

negative_parts : (left right : Option ℤ) → is_negative left right ≡ true
    → (x : ℤ) × (y : ℤ) × IsNoMore left x × IsNoMore right y × ((x +ℤ y) <ℤ pos 0)
negative_parts None right is = absurd (cc)
negative_parts (Some a) None is = absurd (cc)
negative_parts (Some a) (Some b) is = (a, b, omega (arith, ints), omega (arith, ints), omega (arith, ints))

pub natural_sum : (left right : Option ℤ) (x y : ℤ) → is_negative left right ≡ false → IsNoMore left x → IsNoMore right y → pos 0 ≤ℤ (x +ℤ y)
natural_sum None right x y is first second = absurd first
natural_sum (Some a) None x y is first second = absurd second
natural_sum (Some a) (Some b) x y is first second = omega (arith, ints)

-- closed bounds contradict each other nowhere
pub void_open : (cells : List (Bound ℤ)) → is_void cells ≡ true → IsClosed (bound cells) → ⊥
void_open cells void closed =
    let pair = some_negative 1024 cells (omega arith) void in
    let parts = negative_parts (bound cells pair.i pair.j) (bound cells pair.j pair.i) pair.is in
    let sum = parts.4 in
    let round = closed_cycle (bound cells) closed pair.i pair.j pair.low pair.also parts.0 parts.1 parts.2 parts.3 in
    omega (arith, ints)

-- where bounds only fall and no two contradict each other, none did before
pub filled_by : (old new : List (Bound ℤ))
    → ((a b : ℕ) → a < 32 → b < 32 → (z : ℤ) → IsNoMore (bound old a b) z → IsNoMore (bound new a b) z)
    → is_void new ≡ false → is_void old ≡ false
filled_by old new kept filled = chosen (is_void old) refl
  where
    chosen : (t : Bool) → is_void old ≡ t → is_void old ≡ false
    chosen false is = is
    chosen true is =
        let pair = some_negative 1024 old (omega arith) is in
        let parts = negative_parts (bound old pair.i pair.j) (bound old pair.j pair.i) pair.is in
        let sum = parts.4 in
        let natural = natural_sum (bound new pair.i pair.j) (bound new pair.j pair.i) parts.0 parts.1
        (no_negative new filled pair.i pair.j pair.low pair.also)
        (kept pair.i pair.j pair.low pair.also parts.0 parts.2) (kept pair.j pair.i pair.also pair.low parts.1 parts.3) in
        absurd (omega (arith, ints))

pub closed_cells : (cells : List (Bound ℤ)) → HasNoShorterWay (bound cells) → IsClosed (bound cells)
closed_cells cells ways = record { diagonal = λ i h. bound_same cells i i refl; ways = ways }

turned_same : (i j : ℕ) → turned i ≡ turned j → i ≡ j
turned_same i j same = sym (turned_twice i) ∙ ap turned same ∙ turned_twice j

module _ (old between new : List (Bound ℤ)) (i j : ℕ) (step : Option ℤ) (low : i < 32) (also : j < 32) (apart : i ≢ j)
    (fit : (z : ℤ) → step ≡ Some z → Fits128 z) (first : AreCellsOf (tightened old i j step) between) (second : AreCellsOf
    (tightened between (turned j) (turned i) step) new) where
  one : IsShortened (bound old) i j step (bound between)
  one = tightened_short old between i j step low also first

  two : IsShortened (bound between) (turned j) (turned i) step (bound new)
  two = tightened_short between new (turned j) (turned i) step (turned_low j also) (turned_low i low) second

  turns_apart : turned j ≢ turned i
  turns_apart same = apart (sym (turned_same j i same))

  kept : (a b : ℕ) → a < 32 → b < 32 → (z : ℤ) → IsNoMore (bound old a b) z → IsNoMore (bound new a b) z
  kept a b h g z within = two.own a b h g z (one.own a b h g z within)

  here : (z : ℤ) → IsNoMore step z → IsNoMore (bound between i j) z
  here = tightened_step old between i j step low also first apart fit

  there : (z : ℤ) → IsNoMore step z → IsNoMore (bound new (turned j) (turned i)) z
  there = tightened_step between new (turned j) (turned i) step (turned_low j also) (turned_low i low) second turns_apart fit

  pub entered_below : AreAtMost (bound new) (with_twins (bound old) i j step)
  entered_below a b h g = within_at_most (bound new a b) (with_twins (bound old) i j step a b) (λ z within. ⊎_elim
      (λ (own : IsNoMore (bound old a b) z). kept a b h g z own)
      (λ either. ⊎_elim
      (λ (is : (a ≡ i) × (b ≡ j) × IsNoMore step z).
      subst (λ p. IsNoMore (bound new p b) z) (sym is.0) (subst (λ q. IsNoMore (bound new i q) z) (sym is.1)
      (two.own i j low also z (here z is.2))))
      (λ (is : (a ≡ turned j) × (b ≡ turned i) × IsNoMore step z).
      subst (λ p. IsNoMore (bound new p b) z) (sym is.0) (subst (λ q. IsNoMore (bound new (turned j) q) z) (sym is.1) (there z is.2)))
      either)
      (twins_only (bound old) i j step a b z within))

  pub entered_greatest : (n : Matrix) → IsClosed n → AreAtMost n (with_twins (bound old) i j step) → AreAtMost n (bound new)
  entered_greatest n closed below a b h g = within_at_most (n a b) (bound new a b)
      (shortened_greatest (bound between) (bound new) (turned j) (turned i) step (turned_low j also) (turned_low i low) n closed
      (shortened_greatest (bound old) (bound between) i j step low also n closed
      (λ p q k l z within. at_most_within (n p q) (with_twins (bound old) i j step p q) z (below p q k l)
      (twins_own (bound old) i j step p q z within))
      (λ z within. at_most_within (n i j) (with_twins (bound old) i j step i j) z (below i j low also)
      (twins_first (bound old) i j step z within))
      one)
      (λ z within. at_most_within (n (turned j) (turned i)) (with_twins (bound old) i j step (turned j) (turned i)) z
      (below (turned j) (turned i) (turned_low j also) (turned_low i low)) (twins_second (bound old) i j step z within))
      two a b h g)

  pub entered_none : is_void new ≡ true → HasNoClosed (with_twins (bound old) i j step)
  entered_none void n closed below =
      let pair = some_negative 1024 new (omega arith) void in
      let parts = negative_parts (bound new pair.i pair.j) (bound new pair.j pair.i) pair.is in
      let least = entered_greatest n closed below in
      let sum = parts.4 in
      let round = closed_cycle n closed pair.i pair.j pair.low pair.also parts.0 parts.1
      (at_most_within (n pair.i pair.j) (bound new pair.i pair.j) parts.0 (least pair.i pair.j pair.low pair.also) parts.2)
      (at_most_within (n pair.j pair.i) (bound new pair.j pair.i) parts.1 (least pair.j pair.i pair.also pair.low) parts.3) in
      omega (arith, ints)

  -- ---- bounds that contradict each other nowhere

  module _ (filled : is_void new ≡ false) where
    no_first : HasNoCycle (bound old) i j step
    no_first y s back over =
        let sum = natural_sum (bound new i j) (bound new j i) s y (no_negative new filled i j low also)
        (two.own i j low also s (here s over)) (kept j i also low y back) in
        omega (arith, ints)

    no_second : HasNoCycle (bound between) (turned j) (turned i) step
    no_second y s back over =
        let sum = natural_sum (bound new (turned j) (turned i)) (bound new (turned i) (turned j)) s y
        (no_negative new filled (turned j) (turned i) (turned_low j also) (turned_low i low))
        (there s over) (two.own (turned i) (turned j) (turned_low i low) (turned_low j also) y back) in
        omega (arith, ints)

    filled_before : is_void old ≡ false
    filled_before = filled_by old new kept filled

    -- where no sum leaves 128 bits, closed bounds stay closed
    entered_whole : SumsFit (bound old) i j step → SumsFit (bound between) (turned j) (turned i) step → IsClosed (bound old) → IsClosed (bound new)
    entered_whole fits again closed =
        let middle = shortened_closed (bound old) (bound between) i j step low also closed no_first one
        (tightened_ways old between i j step low also first closed no_first
        (λ a b h g x s y from over to. inl (fits a b h g x s y from over to))) in
        shortened_closed (bound between) (bound new) (turned j) (turned i) step (turned_low j also) (turned_low i low) middle no_second two
        (tightened_ways between new (turned j) (turned i) step (turned_low j also) (turned_low i low) second middle no_second
        (λ a b h g x s y from over to. inl (again a b h g x s y from over to)))

  pub entered_keeps : SumsFit (bound old) i j step → SumsFit (bound between) (turned j) (turned i) step → KeepsClosed old new
  entered_keeps fits again marked filled =
      (entered_whole filled fits again (closed_cells old (marked (filled_before filled)))).ways

  -- ---- closed bounds whose sums of five fit

  module _ (closed : IsClosed (bound old)) (five : FiveFit (with_twins (bound old) i j step)) (filled : is_void new ≡ false) where
    fits_five : (v w x y z t : ℤ) → IsBoundOf (with_twins (bound old) i j step) v → IsBoundOf (with_twins (bound old) i j step) w
        → IsBoundOf (with_twins (bound old) i j step) x → IsBoundOf (with_twins (bound old) i j step) y
        → IsBoundOf (with_twins (bound old) i j step) z → v +ℤ w +ℤ x +ℤ y +ℤ z ≡ t → Fits128 t
    fits_five v w x y z t a b c d e is = subst Fits128 is (five v w x y z a b c d e)

    nought : IsBoundOf (with_twins (bound old) i j step) (pos 0)
    nought = record {
      row = i;
      column = i;
      low = low;
      also = low;
      is = twins_other (bound old) i j step i i (λ p q. apart q) (λ p q. turned_apart i (sym q)) ∙ bound_same old i i refl;
    }

    into : (a : ℕ) (z : ℤ) → a < 32 → bound old a i ≡ Some z → IsBoundOf (with_twins (bound old) i j step) z
    into a z h is = record {
      row = a;
      column = i;
      low = h;
      also = low;
      is = twins_other (bound old) i j step a i (λ p q. apart q) (λ p q. turned_apart i (sym q)) ∙ is;
    }

    out : (b : ℕ) (z : ℤ) → b < 32 → bound old j b ≡ Some z → IsBoundOf (with_twins (bound old) i j step) z
    out b z h is = record {
      row = j;
      column = b;
      low = also;
      also = h;
      is = twins_other (bound old) i j step j b (λ p q. apart (sym p)) (λ p q. turned_apart j (sym p)) ∙ is;
    }

    into_twin : (a : ℕ) (z : ℤ) → a < 32 → bound old a (turned j) ≡ Some z → IsBoundOf (with_twins (bound old) i j step) z
    into_twin a z h is = record {
      row = a;
      column = turned j;
      low = h;
      also = turned_low j also;
      is = twins_other (bound old) i j step a (turned j) (λ p q. turned_apart j q) (λ p q. turns_apart q) ∙ is;
    }

    out_twin : (b : ℕ) (z : ℤ) → b < 32 → bound old (turned i) b ≡ Some z → IsBoundOf (with_twins (bound old) i j step) z
    out_twin b z h is = record {
      row = turned i;
      column = b;
      low = turned_low i low;
      also = h;
      is = twins_other (bound old) i j step (turned i) b (λ p q. turned_apart i p) (λ p q. turns_apart (sym p)) ∙ is;
    }

    -- the first bound

    fit_first : WaysFit (bound old) i j step
    fit_first a b h g x s y first over last = ⊎_elim
        (λ (within : IsNoMore (bound old i j) s).
        inr (closed_way (bound old) closed a b j h g also (x +ℤ s) y (x +ℤ s +ℤ y)
        (closed_way (bound old) closed a j i h also low x s (x +ℤ s) (within_is (bound old a i) x first) within (omega (arith, ints)))
        (within_is (bound old j b) y last) (omega (arith, ints))))
        (λ (past : IsNoMore (bound old i j) s → ⊥).
        let new : IsBoundOf (with_twins (bound old) i j step) s = record {
          row = i;
          column = j;
          low = low;
          also = also;
          is = subst (λ e. with_twins (bound old) i j e i j ≡ Some s) (sym over) (twins_first_is (bound old) i j s past);
        } in
        inl (
          fits_five x s (pos 0) (pos 0) (pos 0) (x +ℤ s) (into a x h first) new nought nought nought (omega (arith, ints)),
          fits_five x s y (pos 0) (pos 0) (x +ℤ s +ℤ y) (into a x h first) new (out b y g last) nought nought (omega (arith, ints)),
        ))
        (within_or (bound old i j) s)

    first_ways : HasWays (bound old) i j step (bound between)
    first_ways = tightened_ways old between i j step low also first closed (no_first filled) fit_first

    first_closed : IsClosed (bound between)
    first_closed = shortened_closed (bound old) (bound between) i j step low also closed (no_first filled) one first_ways

    -- what a bound between is: an old one, or the way over the step
    parts : (a b : ℕ) → a < 32 → b < 32 → (x s : ℤ) → step ≡ Some s → bound between a b ≡ Some x
        → (bound old a b ≡ Some x) ⊎ ((p : ℤ) × (q : ℤ) × (bound old a i ≡ Some p) × (bound old j b ≡ Some q) × (x ≡ p +ℤ s +ℤ q))
    parts a b h g x s over is = ⊎_elim
        (λ (own : IsNoMore (bound old a b) x).
        let found = within_some (bound old a b) x own in
        let again = one.own a b h g found.0 (within_is (bound old a b) found.0 found.1) in
        let less : x ≤ℤ found.0 = rw is at again in
        let more = found.2 in
        let same : found.0 ≡ x = omega (arith, ints) in
        inl (found.1 ∙ ap Some same))
        (λ (way : IsWay (bound old) i j step a b x).
        let p = within_some (bound old a i) way.into way.first in
        let t = within_some step way.over way.second in
        let q = within_some (bound old j b) way.out way.third in
        let again = first_ways a b h g (p.0 +ℤ s +ℤ q.0) (record {
          into = p.0;
          over = s;
          out = q.0;
          first = within_is (bound old a i) p.0 p.1;
          second = within_is step s over;
          third = within_is (bound old j b) q.0 q.1;
          sum = omega (arith, ints);
        }) in
        let less : x ≤ℤ (p.0 +ℤ s +ℤ q.0) = rw is at again in
        let steps : s ≤ℤ way.over = rw over at way.second in
        let one_more = p.2 in
        let two_more = q.2 in
        let sum = way.sum in
        inr (p.0, q.0, p.1, q.1, omega (arith, ints)))
        (one.only a b h g x (within_is (bound between a b) x is))

    -- the twin

    fit_second : WaysFit (bound between) (turned j) (turned i) step
    fit_second a b h g x s y first over last = ⊎_elim
        (λ (within : IsNoMore (bound between (turned j) (turned i)) s).
        inr (closed_way (bound between) first_closed a b (turned i) h g (turned_low i low) (x +ℤ s) y (x +ℤ s +ℤ y)
        (closed_way (bound between) first_closed a (turned i) (turned j) h (turned_low i low) (turned_low j also) x s (x +ℤ s)
        (within_is (bound between a (turned j)) x first) within (omega (arith, ints)))
        (within_is (bound between (turned i) b) y last) (omega (arith, ints))))
        (λ (past : IsNoMore (bound between (turned j) (turned i)) s → ⊥).
        let new : IsBoundOf (with_twins (bound old) i j step) s = record {
          row = turned j;
          column = turned i;
          low = turned_low j also;
          also = turned_low i low;
          is = subst (λ e. with_twins (bound old) i j e (turned j) (turned i) ≡ Some s) (sym over) (twins_second_is (bound old) i j s
              (λ within. past (one.own (turned j) (turned i) (turned_low j also) (turned_low i low) s within)));
        } in
        ⊎_elim
        (λ (own : bound old a (turned j) ≡ Some x). ⊎_elim
        (λ (also_own : bound old (turned i) b ≡ Some y). inl (
          fits_five x s (pos 0) (pos 0) (pos 0) (x +ℤ s) (into_twin a x h own) new nought nought nought (omega (arith, ints)),
          fits_five x s y (pos 0) (pos 0) (x +ℤ s +ℤ y) (into_twin a x h own) new (out_twin b y g also_own) nought nought
              (omega (arith, ints)),
        ))
        (λ (way : (p : ℤ) × (q : ℤ) × (bound old (turned i) i ≡ Some p) × (bound old j b ≡ Some q) × (y ≡ p +ℤ s +ℤ q)).
        let sum = way.4 in
        inl (
          fits_five x s (pos 0) (pos 0) (pos 0) (x +ℤ s) (into_twin a x h own) new nought nought nought (omega (arith, ints)),
          fits_five x s way.0 s way.1 (x +ℤ s +ℤ y) (into_twin a x h own) new (into (turned i) way.0 (turned_low i low) way.2) new
              (out b way.1 g way.3) (omega (arith, ints)),
        ))
        (parts (turned i) b (turned_low i low) g y s over last))
        (λ (way : (p : ℤ) × (q : ℤ) × (bound old a i ≡ Some p) × (bound old j (turned j) ≡ Some q) × (x ≡ p +ℤ s +ℤ q)).
        let sum = way.4 in
        ⊎_elim
        (λ (own : bound old (turned i) b ≡ Some y). inl (
          fits_five way.0 s way.1 s (pos 0) (x +ℤ s) (into a way.0 h way.2) new (out (turned j) way.1 (turned_low j also) way.3) new
              nought (omega (arith, ints)),
          fits_five way.0 s way.1 s y (x +ℤ s +ℤ y) (into a way.0 h way.2) new (out (turned j) way.1 (turned_low j also) way.3) new
              (out_twin b y g own) (omega (arith, ints)),
        ))
        (λ (next : (p : ℤ) × (q : ℤ) × (bound old (turned i) i ≡ Some p) × (bound old j b ≡ Some q) × (y ≡ p +ℤ s +ℤ q)).
        let also_sum = next.4 in
        let round = (no_second filled) (next.0 +ℤ s +ℤ way.1) s
        (first_ways (turned i) (turned j) (turned_low i low) (turned_low j also) (next.0 +ℤ s +ℤ way.1) (record {
          into = next.0;
          over = s;
          out = way.1;
          first = within_is (bound old (turned i) i) next.0 next.2;
          second = within_is step s over;
          third = within_is (bound old j (turned j)) way.1 way.3;
          sum = omega (arith, ints);
        })) (within_is step s over) in
        inr (first_ways a b h g (x +ℤ s +ℤ y) (record {
          into = way.0;
          over = s;
          out = next.1;
          first = within_is (bound old a i) way.0 way.2;
          second = within_is step s over;
          third = within_is (bound old j b) next.1 next.3;
          sum = omega (arith, ints);
        })))
        (parts (turned i) b (turned_low i low) g y s over last))
        (parts a (turned j) h (turned_low j also) x s over first))
        (within_or (bound between (turned j) (turned i)) s)

    pub entered_closed : IsClosed (bound new)
    entered_closed = shortened_closed (bound between) (bound new) (turned j) (turned i) step (turned_low j also) (turned_low i low)
        first_closed (no_second filled) two
        (tightened_ways between new (turned j) (turned i) step (turned_low j also) (turned_low i low) second first_closed (no_second filled)
        fit_second)

    pub entered_closure : IsClosureOf (with_twins (bound old) i j step) (bound new)
    entered_closure = record {
      closed = entered_closed;
      below = entered_below;
      greatest = entered_greatest;
    }
