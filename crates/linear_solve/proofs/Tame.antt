-- Octagon lists: every combination is an octagon row again, its constant at most doubles, and every
-- chosen value is whole.
use Rattle.std.proofs.Common.{◌≡◌, ◌≢◌, ◌⊎◌, inl, inr, ℕ, zero, suc, ◌+◌, ◌*◌, ◌<◌, ◌≤◌, ◌^◌, ℤ, pos, negsuc, ◌+ℤ◌, ◌*ℤ◌, ◌<ℤ◌, List, refl, sym, ap, subst, ◌∙◌, arith, All, Contains, ⊎_elim, unsigned_abs, true, eqb, false, cond}
use Rattle.std.proofs.lemmas.Int.{ints}
use Rattle.std.proofs.lemmas.Bool.{cases_lt}
use Rattle.std.proofs.lemmas.Bool.Decides.{eqb_tells}
use Rattle.std.specs.Int.{◌∣◌}
use Rattle.std.proofs.lemmas.Nat.Gcd.{dvd-zero}
use Rattle.linear_cons.specs.LinearForm.{products_below}
use Rattle.linear_solve.proofs.Bounding.{form_is}
use Rattle.std.proofs.Math.Nat.{dvd-mul_right, le_trans, mul-le-mul_left, mul-le-mul_right, one-le-pow, pow-le-pow_right, two-pow-succ}
use Rattle.linear_cons.specs.declared.row.Row.{Row}
use Rattle.linear_cons.specs.Functions.{IsQuotient, coefficient, form_at, multiple_of}
use Rattle.linear_cons.specs.Numbers.{at_places, number_at}
use Rattle.linear_cons.specs.declared.affine.Affine.{Affine}
use Rattle.linear_cons.proofs.Ring.{mul_one}
use Rattle.linear_cons.proofs.Places.{number_at_places, number_at-clear, number_at-set, length-at_places}
use Rattle.linear_solve.specs.Elimination.{HasUnfitPair, IsEliminated, IsLower, IsMade, IsUpper, made_of, mixture, opposite}
use Rattle.linear_solve.specs.Points.{FormFits, IsBound, IsPutBack, PutBackFits, cleared, moved, numbers_of, numerator_of, slope_at}
use Rattle.linear_solve.specs.Solving.{IsTame, IsTamePoint}
use Rattle.linear_solve.specs.Systems.{IsOctagonRow, occurring, occurs, weight_below}
use Rattle.linear_solve.specs.declared.point.Bound.{Bound}
use Rattle.linear_solve.specs.declared.point.Point.{Point}
use Rattle.linear_solve.specs.declared.point.Side.{Side}
use Rattle.linear_solve.specs.declared.point.Side.TheVariants.{Below, Above}
use Rattle.linear_solve.proofs.Lists.{all_of, member_of}
use Rattle.linear_solve.proofs.Mixing.{mixture_cancels, mixture_coefficient}
use Rattle.linear_solve.proofs.Sizes.{abs_add, abs_mul_le, abs_opposite, form_fits, form_size, products_size_without, quotient_constant, quotient_size, small_fits, weight_each, weight_le, weight_pair}
use Rattle.linear_solve.proofs.Counting.{octagon_made}
use Rattle.linear_solve.proofs.Occurring.{occurring_most}
use Rattle.linear_solve.proofs.Solved.{fewer_occur}

-- ---- octagon rows

-- a row that bounds a place has 1 there in size
unit_lower : (bound : ℕ) (row : Row) (place : ℕ) → place < 16 → IsOctagonRow bound row → IsLower place row → coefficient row.affine place ≡ pos 1
unit_lower bound row place inside octagon below = unit_above (coefficient row.affine place) (octagon.units place inside) below
  where
    unit_above : (z : ℤ) → unsigned_abs z ≤ 1 → pos 0 <ℤ z → z ≡ pos 1
    unit_above z size more = omega (arith, ints)

unit_upper : (bound : ℕ) (row : Row) (place : ℕ) → place < 16 → IsOctagonRow bound row → IsUpper place row → coefficient row.affine place ≡ negsuc 0
unit_upper bound row place inside octagon above = unit_below (coefficient row.affine place) (octagon.units place inside) above
  where
    unit_below : (z : ℤ) → unsigned_abs z ≤ 1 → z <ℤ pos 0 → z ≡ negsuc 0
    unit_below z size less = omega (arith, ints)

-- the combination of octagon rows is their sum
module _ (bound : ℕ) (lower upper : Row) (place : ℕ) (inside : place < 16) (own : IsOctagonRow bound lower) (other : IsOctagonRow bound upper) (below : IsLower place lower) (above : IsUpper place upper) where
  upper_one : opposite (coefficient upper.affine place) ≡ pos 1
  upper_one = ap opposite (unit_upper bound upper place inside other above)

  sum_coefficient : (i : ℕ) → i < 16 → coefficient (mixture lower upper place) i ≡ coefficient lower.affine i +ℤ coefficient upper.affine i
  sum_coefficient i low = rw (mixture_coefficient lower upper place i low, upper_one, unit_lower bound lower place inside own below, mul_one, mul_one) refl

  sum_constant : (mixture lower upper place).constant ≡ lower.affine.constant +ℤ upper.affine.constant
  sum_constant = rw (upper_one, unit_lower bound lower place inside own below, mul_one, mul_one) refl

  sum_constant_size : unsigned_abs (mixture lower upper place).constant ≤ 2 * bound
  sum_constant_size = rw sum_constant (let s = abs_add lower.affine.constant upper.affine.constant in let p = own.constants in let q = other.constants in omega (arith, s, p, q))

  sum_weight : (n : ℕ) → n ≤ 16 → weight_below n (mixture lower upper place).coef ≤ weight_below n lower.affine.coef + weight_below n upper.affine.coef
  unfolding weight_below
  sum_weight zero le = omega arith
  sum_weight (suc n) le =
      let before = sum_weight n (omega arith) in
      let s = abs_add (coefficient lower.affine n) (coefficient upper.affine n) in
      let is : unsigned_abs (coefficient (mixture lower upper place) n) ≡ unsigned_abs (coefficient lower.affine n +ℤ coefficient upper.affine n) = ap unsigned_abs (sum_coefficient n (omega arith)) in
      omega (arith, before, s, is)

  -- the place cancels out, and takes 1 from each row's weight
  sum_weight_without : (n : ℕ) → n ≤ 16 → place < n → weight_below n (mixture lower upper place).coef + 2 ≤ weight_below n lower.affine.coef + weight_below n upper.affine.coef
  unfolding weight_below
  sum_weight_without zero le inside = absurd (omega arith)
  sum_weight_without (suc n) le less = ⊎_elim
      (λ (earlier : place < n).
      let before = sum_weight_without n (omega arith) earlier in
      let s = abs_add (coefficient lower.affine n) (coefficient upper.affine n) in
      let is : unsigned_abs (coefficient (mixture lower upper place) n) ≡ unsigned_abs (coefficient lower.affine n +ℤ coefficient upper.affine n) = ap unsigned_abs (sum_coefficient n (omega arith)) in
      omega (arith, before, s, is))
      (λ (from : n ≤ place).
      let e : n ≡ place = omega arith in
      let before = sum_weight n (omega arith) in
      let none : unsigned_abs (coefficient (mixture lower upper place) n) ≡ 0 = ap (λ t. unsigned_abs (coefficient (mixture lower upper place) t)) e ∙ ap unsigned_abs (mixture_cancels lower upper place inside) in
      let l : unsigned_abs (coefficient lower.affine n) ≡ 1 = ap (λ t. unsigned_abs (coefficient lower.affine t)) e ∙ ap unsigned_abs (unit_lower bound lower place inside own below) in
      let u : unsigned_abs (coefficient upper.affine n) ≡ 1 = ap (λ t. unsigned_abs (coefficient upper.affine t)) e ∙ ap unsigned_abs (unit_upper bound upper place inside other above) in
      omega (arith, before, none, l, u))
      (cases_lt place n)

  sum_two : weight_below 16 (mixture lower upper place).coef ≤ 2
  sum_two =
      let whole = sum_weight_without 16 (omega arith) inside in
      let l = own.two in
      let u = other.two in
      omega (arith, whole, l, u)

-- an octagon row from coefficients of a weight of at most 2
octagon_of : (a : Affine) (row : Row) (bound : ℕ) → IsQuotient a row.affine → weight_below 16 a.coef ≤ 2 → unsigned_abs a.constant ≤ bound → IsOctagonRow bound row
octagon_of a row bound by two constant = record {
  units = λ i low. ⊎_elim
      (λ (small : unsigned_abs (coefficient row.affine i) < 2). omega (arith, small))
      (λ (large : 2 ≤ unsigned_abs (coefficient row.affine i)). absurd (let e : ◌≡◌ {A = ℕ} 2 1 = row.primitive 2 (λ j inside. all_even i j low inside large) in omega arith))
      (cases_lt (unsigned_abs (coefficient row.affine i)) 2);
  two = weight_two;
  constants = le_trans (quotient_constant a row.affine by) constant;
}
  where
    weight_two : weight_below 16 row.affine.coef ≤ 2
    weight_two = le_trans (weight_le 16 row.affine.coef a.coef (λ i low. quotient_size a row.affine by i low)) two

    even : (n : ℕ) → (n ≡ 0) ⊎ (n ≡ 2) → 2 ∣ n
    even n (inl is) = rw is (dvd-zero 2)
    even n (inr is) = rw is (dvd-mul_right 2 1)

    all_even : (i j : ℕ) → i < 16 → j < 16 → 2 ≤ unsigned_abs (coefficient row.affine i) → 2 ∣ unsigned_abs (coefficient row.affine j)
    all_even i j low inside large = even _ (⊎_elim
        (λ (same : (eqb j i ≡ true) × (j ≡ i)). let p = weight_each 16 row.affine.coef i low in let w = weight_two in inr (ap (λ t. unsigned_abs (coefficient row.affine t)) same.1 ∙ omega (arith, p, w, large)))
        (λ (apart : (eqb j i ≡ false) × (j ≢ i)). let p = weight_pair 16 row.affine.coef j i inside low apart.1 in let w = weight_two in inl (omega (arith, p, w, large)))
        (eqb_tells j i))

pub made_octagon : (rows : List Row) (place bound : ℕ) (row : Row) → place < 16 → All (IsOctagonRow bound) rows → IsMade rows place row → IsOctagonRow (2 * bound) row
made_octagon rows place bound row inside octagons (inl (member, none)) =
    let own = member_of (IsOctagonRow bound) rows row octagons member in
    record { units = own.units; two = own.two; constants = let p = own.constants in omega (arith, p) }
made_octagon rows place bound row inside octagons (inr mix) =
    let own = member_of (IsOctagonRow bound) rows mix.lower octagons mix.pair.lower_in in
    let other = member_of (IsOctagonRow bound) rows mix.upper octagons mix.pair.upper_in in
    octagon_of (mixture mix.lower mix.upper place) row (2 * bound) mix.normal
    (sum_two bound mix.lower mix.upper place inside own other mix.pair.below mix.pair.above)
    (sum_constant_size bound mix.lower mix.upper place inside own other mix.pair.below mix.pair.above)

-- the bound of a tame list is at most 2^80
bound_small : (rows : List Row) (bound : ℕ) → IsTame bound rows → bound ≤ 2 ^ 80
bound_small rows bound tame =
    let p : bound * 1 ≤ bound * 2 ^ occurring rows = mul-le-mul_left bound (one-le-pow (occurring rows) 2 (omega arith)) in
    let q = tame.power in
    omega (arith, p, q)

pub tame_pairs : (rows : List Row) (place bound : ℕ) → place < 16 → IsTame bound rows → ¬ HasUnfitPair rows place
tame_pairs rows place bound inside tame unfit =
    let own = member_of (IsOctagonRow bound) rows unfit.lower tame.octagons unfit.pair.lower_in in
    let other = member_of (IsOctagonRow bound) rows unfit.upper tame.octagons unfit.pair.upper_in in
    let small = bound_small rows bound tame in
    let opposite_is = upper_one bound unfit.lower unfit.upper place inside own other unfit.pair.below unfit.pair.above in
    let opposite_size : unsigned_abs (opposite (coefficient unfit.upper.affine place)) ≤ 1 = rw opposite_is (omega arith) in
    unfit.unfit (record {
      size = small_fits _ (omega (arith, opposite_size));
      first = record {
        coefficients = λ i low. rw number_at_places (small_fits _ (let p = abs_mul_le (coefficient unfit.lower.affine i) (opposite (coefficient unfit.upper.affine place)) 1 1 (own.units i low) opposite_size in omega (arith, p)));
        constants = small_fits _ (let p = abs_mul_le unfit.lower.affine.constant (opposite (coefficient unfit.upper.affine place)) bound 1 own.constants opposite_size in omega (arith, p, small));
      };
      second = record {
        coefficients = λ i low. rw number_at_places (small_fits _ (let p = abs_mul_le (coefficient unfit.upper.affine i) (coefficient unfit.lower.affine place) 1 1 (other.units i low) (own.units place inside) in omega (arith, p)));
        constants = small_fits _ (let p = abs_mul_le unfit.upper.affine.constant (coefficient unfit.lower.affine place) bound 1 other.constants (own.units place inside) in omega (arith, p, small));
      };
      sums = record {
        coefficients = λ i low. small_fits _ (let p = weight_each 16 (mixture unfit.lower unfit.upper place).coef i low in let q = sum_two bound unfit.lower unfit.upper place inside own other unfit.pair.below unfit.pair.above in omega (arith, p, q));
        constants = small_fits _ (let p = sum_constant_size bound unfit.lower unfit.upper place inside own other unfit.pair.below unfit.pair.above in omega (arith, p, small));
      };
    })

-- ---- how many rows

pub tame_count : (rows : List Row) (place bound : ℕ) → place < 16 → IsTame bound rows → ¬ (4096 < made_of place rows)
tame_count rows place bound inside tame many =
    let few = octagon_made rows place inside tame.distinct (λ row member. let own = member_of (IsOctagonRow bound) rows row tame.octagons member in record { units = own.units; two = own.two }) in
    omega (arith, few, many)

-- ---- one elimination

pub tame_left : (rows : List Row) (place : ℕ) (left : List Row) (bound : ℕ) → place < 16 → occurs place rows ≡ true → IsEliminated rows place left → IsTame bound rows → IsTame (2 * bound) left
tame_left rows place left bound inside some eliminated tame = record {
  distinct = eliminated.distinct;
  octagons = all_of (IsOctagonRow (2 * bound)) left (λ row member. made_octagon rows place bound row inside tame.octagons (eliminated.made row member));
  power =
      let fewer = fewer_occur rows place left inside some eliminated in
      let step : 2 ^ suc (occurring left) ≤ 2 ^ occurring rows = pow-le-pow_right (omega arith) fewer in
      let double = two-pow-succ (occurring left) in
      let doubled : 2 * 2 ^ occurring left ≤ 2 ^ occurring rows = omega (arith, step, double) in
      let p : bound * (2 * 2 ^ occurring left) ≤ bound * 2 ^ occurring rows = mul-le-mul_left bound doubled in
      let q = tame.power in
      omega (arith, p, q);
}

-- ---- the place put back

module _ (rows : List Row) (place n bound : ℕ) (point : Point) (inside : place < 16) (fewer : n < occurring rows) (tame : IsTame bound rows) (tame_point : IsTamePoint n point) where
  base_small : (i : ℕ) → i < 16 → unsigned_abs (number_at (cleared point.num place) i) ≤ n * 2 ^ 80
  base_small i low = rw number_at-clear (⊎_elim
      (λ (same : (eqb i place ≡ true) × (i ≡ place)). rw same.0 (omega arith))
      (λ (apart : (eqb i place ≡ false) × (i ≢ place)). rw apart.0 (tame_point.numerators i low))
      (eqb_tells i place))

  few : n ≤ 15
  few = let p = occurring_most 16 rows in omega (arith, p, fewer)

  row_constant : (row : Row) → Contains rows row → unsigned_abs (row.affine.constant *ℤ point.den) ≤ 2 ^ 80
  row_constant row member =
      rw (tame_point.denominator, mul_one) (le_trans (member_of (IsOctagonRow bound) rows row tame.octagons member).constants (bound_small rows bound tame))

  row_fits : (row : Row) → Contains rows row → FormFits row.affine (cleared point.num place) point.den
  row_fits row member = form_fits row.affine (cleared point.num place) point.den 2 (n * 2 ^ 80) (2 ^ 80) (member_of (IsOctagonRow bound) rows row tame.octagons member).two base_small (row_constant row member) (let p = few in omega (arith, p))

  row_form : (row : Row) → Contains rows row → unsigned_abs (form_at row.affine (cleared point.num place) point.den) ≤ 2 ^ 90
  row_form row member = let p = form_size row.affine (cleared point.num place) point.den 2 (n * 2 ^ 80) (2 ^ 80) (member_of (IsOctagonRow bound) rows row tame.octagons member).two base_small (row_constant row member) in let q = few in omega (arith, p, q)

  row_slope : (side : Side) (row : Row) → Contains rows row → unsigned_abs (slope_at side row place) ≤ 1
  row_slope Below row member = (member_of (IsOctagonRow bound) rows row tame.octagons member).units place inside
  row_slope Above row member = let e = abs_opposite (coefficient row.affine place) in let h = (member_of (IsOctagonRow bound) rows row tame.octagons member).units place inside in omega (arith, e, h)

  -- the slope of a bound is 1
  bound_slope : (side : Side) (own_bound : Bound) → IsBound rows place side (cleared point.num place) point.den own_bound → own_bound.slope ≡ pos 1
  bound_slope side own_bound own = slope_one own_bound.slope own.positive (rw own.slope (row_slope side own.row own.row_in))
    where
      slope_one : (z : ℤ) → pos 0 <ℤ z → unsigned_abs z ≤ 1 → z ≡ pos 1
      slope_one z more size = omega (arith, ints)

  -- the place's own coefficient takes no part in its bound
  bound_form : (side : Side) (own_bound : Bound) → IsBound rows place side (cleared point.num place) point.den own_bound → unsigned_abs own_bound.form ≤ (n + 1) * 2 ^ 80
  bound_form side own_bound own =
      let d : ℕ = n * 2 ^ 80 in
      let base : List ℤ = cleared point.num place in
      let octagon = member_of (IsOctagonRow bound) rows own.row tame.octagons own.row_in in
      let unit : unsigned_abs (coefficient own.row.affine place) ≡ 1 = slope_unit side own.row (sym own.slope ∙ bound_slope side own_bound own) in
      let sum = products_size_without 16 place own.row.affine.coef base d inside (cleared_zero point.num place) base_small in
      let weight : weight_below 16 own.row.affine.coef * d ≤ 2 * d = mul-le-mul_right d octagon.two in
      let one : unsigned_abs (coefficient own.row.affine place) * d ≡ d = ap (λ t. t * d) unit ∙ one_times d in
      let constant = row_constant own.row own.row_in in
      let whole = abs_add (products_below 16 own.row.affine.coef base) (own.row.affine.constant *ℤ point.den) in
      rw (own.form, form_is) (omega (arith, sum, weight, one, constant, whole))
    where
      one_times : (k : ℕ) → 1 * k ≡ k
      one_times k = omega arith

      slope_unit : (side : Side) (row : Row) → slope_at side row place ≡ pos 1 → unsigned_abs (coefficient row.affine place) ≡ 1
      slope_unit Below row is = ap unsigned_abs is
      slope_unit Above row is = sym (abs_opposite (coefficient row.affine place)) ∙ ap unsigned_abs is

      cleared_zero : (num : List ℤ) (p : ℕ) → number_at (cleared num p) p ≡ pos 0
      cleared_zero num p = number_at-clear num p p ∙ ⊎_elim
          (λ (same : (eqb p p ≡ true) × (p ≡ p)). ap (λ t. cond t (pos 0) (number_at num p)) same.0)
          (λ (apart : (eqb p p ≡ false) × (p ≢ p)). absurd (apart.1 refl))
          (eqb_tells p p)

  tame_fits : PutBackFits rows place point.num point.den
  tame_fits = record {
    bounds = record {
      slopes = λ row side member. small_fits _ (let p = row_slope side row member in omega (arith, p));
      forms = row_fits;
      crosses = λ row other side member also. small_fits _ (let p = abs_mul_le (form_at row.affine (cleared point.num place) point.den) (slope_at side other place) (2 ^ 90) 1 (row_form row member) (row_slope side other also) in omega (arith, p));
    };
    moves = λ side own_bound own. record {
      numbers = record {
        coefficients = λ i low. rw (number_at_places, bound_slope side own_bound own, mul_one) (small_fits _ (let p = base_small i low in let q = few in omega (arith, p, q)));
        constants = rw (bound_slope side own_bound own, mul_one, tame_point.denominator) (small_fits _ (omega arith));
      };
      numerator = small_fits _ (let e = abs_opposite own_bound.form in let p = bound_form side own_bound own in let q = few in omega (arith, e, p, q));
    };
  }

  tame_moved : (side : Side) (own_bound : Bound) → IsBound rows place side (cleared point.num place) point.den own_bound → IsTamePoint (n + 1) (moved (cleared point.num place) point.den place side own_bound)
  tame_moved side own_bound own = record {
    numerators = λ i low. rw (number_at-set (multiple_of (numbers_of (cleared point.num place) point.den) own_bound.slope).coef place i (numerator_of side own_bound.form) (rw length-at_places inside)) (⊎_elim
        (λ (same : (eqb i place ≡ true) × (i ≡ place)). rw (same.0, numerator_size side own_bound.form) (bound_form side own_bound own))
        (λ (apart : (eqb i place ≡ false) × (i ≢ place)). rw (apart.0, number_at_places, bound_slope side own_bound own, mul_one) (let p = base_small i low in omega (arith, p)))
        (eqb_tells i place));
    denominator = rw (bound_slope side own_bound own, mul_one) tame_point.denominator;
  }
    where
      numerator_size : (side : Side) (form : ℤ) → unsigned_abs (numerator_of side form) ≡ unsigned_abs form
      numerator_size Below form = abs_opposite form
      numerator_size Above form = refl

  tame_base : IsTamePoint (n + 1) (record { num = cleared point.num place; den = point.den })
  tame_base = record { numerators = λ i low. let p = base_small i low in omega (arith, p); denominator = tame_point.denominator }

tame_more : (n k : ℕ) (point : Point) → n < k → IsTamePoint (n + 1) point → IsTamePoint k point
tame_more n k point less tame_point = record {
  numerators = λ i low. let p = tame_point.numerators i low in let q : (n + 1) * 2 ^ 80 ≤ k * 2 ^ 80 = mul-le-mul_right (2 ^ 80) (omega (arith, less)) in omega (arith, p, q);
  denominator = tame_point.denominator;
}

pub tame_put_back : (rows : List Row) (place n bound : ℕ) (point : Point) → place < 16 → n < occurring rows → IsTame bound rows → IsTamePoint n point → PutBackFits rows place point.num point.den
tame_put_back rows place n bound point inside fewer tame tame_point = tame_fits rows place n bound point inside fewer tame tame_point

pub tame_next : (rows : List Row) (place n bound : ℕ) (old point : Point) → place < 16 → n < occurring rows → IsTame bound rows → IsTamePoint n old → IsPutBack rows place old.num old.den point → IsTamePoint (occurring rows) point
tame_next rows place n bound old point inside fewer tame tame_point (inl (side, (own_bound, (tightest, is)))) =
    tame_more n (occurring rows) point fewer (subst (IsTamePoint (n + 1)) (sym is) (tame_moved rows place n bound old inside fewer tame tame_point side own_bound tightest.bounds))
tame_next rows place n bound old point inside fewer tame tame_point (inr (below, above, is)) =
    tame_more n (occurring rows) point fewer (subst (IsTamePoint (n + 1)) (sym is) (tame_base rows place n bound old inside fewer tame tame_point))

pub tame_origin : (n : ℕ) (point : Point) → point ≡ record { num = at_places (λ i. pos 0); den = pos 1 } → IsTamePoint n point
tame_origin n point is = subst (IsTamePoint n) (sym is) (record {
  numerators = λ i low. rw number_at_places (omega arith);
  denominator = refl;
})
