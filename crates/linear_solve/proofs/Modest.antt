-- Rows of modest numbers: what an elimination makes of them, and that nothing outgrows 128 bits.
use Rattle.std.proofs.Common.{◌≡◌, ◌≢◌, inl, inr, ℕ, zero, suc, ◌+◌, ◌*◌, ◌/◌, ◌<◌, ◌≤◌, ◌^◌, ℤ, pos, ◌*ℤ◌, List, [], refl, sym, ap, subst, ◌∙◌, arith, All, Contains, ⊎_elim, unsigned_abs, true, eqb, false, cond}
use Rattle.std.proofs.lemmas.Int.{ints}
use Rattle.std.proofs.lemmas.Bool.{cases_lt, false≢true}
use Rattle.std.proofs.lemmas.Bool.Decides.{eqb_tells}
use Rattle.std.proofs.lemmas.Nat.{mul-pow, pow-add}
use Rattle.std.proofs.Math.Nat.{div-mul-le_self, le_trans, mul-le-mul_left, mul-le-mul_right, one-le-pow, pow-le-pow_right, pow-suc, two-pow-succ}
use Rattle.linear_cons.specs.declared.row.Row.{Row}
use Rattle.linear_cons.specs.Functions.{coefficient, form_at, multiple_of}
use Rattle.linear_cons.specs.Numbers.{at_places, number_at}
use Rattle.linear_cons.proofs.Places.{number_at_places, number_at-clear, number_at-set, length-at_places}
use Rattle.linear_solve.specs.Elimination.{HasUnfitPair, IsEliminated, IsMade, mixture, opposite}
use Rattle.linear_solve.specs.Points.{IsBound, IsPutBack, PutBackFits, cleared, moved, numbers_of, numerator_of, slope_at}
use Rattle.linear_solve.specs.Solving.{IsModest, IsModestPoint}
use Rattle.linear_solve.specs.Systems.{IsSized, occurring, occurs, weight_below}
use Rattle.linear_solve.specs.declared.point.Bound.{Bound}
use Rattle.linear_solve.specs.declared.point.Point.{Point}
use Rattle.linear_solve.specs.declared.point.Side.{Side}
use Rattle.linear_solve.specs.declared.point.Side.TheVariants.{Below, Above}
use Rattle.linear_solve.proofs.Lists.{all_of, member_of}
use Rattle.linear_solve.proofs.Mixing.{mixture_coefficient}
use Rattle.linear_solve.proofs.Occurring.{occurring_lt, occurs_in}
use Rattle.linear_solve.proofs.Sizes.{abs_add, abs_mul_le, abs_opposite, form_fits, form_size, mul_le_mul, quotient_constant, quotient_size, small_fits, weight_most}
use Rattle.linear_solve.proofs.Solved.{fewer_occur}

-- ---- the sizes of combinations

mixture_sized : (lower upper : Row) (place m i : ℕ) → i < 16 → place < 16 → IsSized m lower → IsSized m upper → unsigned_abs (coefficient (mixture lower upper place) i) ≤ 2 * (m * m)
mixture_sized lower upper place m i low inside own other =
    let l = abs_mul_le (coefficient lower.affine i) (opposite (coefficient upper.affine place)) m m (own.coefficients i low) (let e = abs_opposite (coefficient upper.affine place) in let h = other.coefficients place inside in omega (arith, e, h)) in
    let u = abs_mul_le (coefficient upper.affine i) (coefficient lower.affine place) m m (other.coefficients i low) (own.coefficients place inside) in
    let s = abs_add (coefficient lower.affine i *ℤ opposite (coefficient upper.affine place)) (coefficient upper.affine i *ℤ coefficient lower.affine place) in
    rw (mixture_coefficient lower upper place i low) (omega (arith, l, u, s))

mixture_constant : (lower upper : Row) (place m : ℕ) → place < 16 → IsSized m lower → IsSized m upper → unsigned_abs (mixture lower upper place).constant ≤ 2 * (m * m)
mixture_constant lower upper place m inside own other =
    let l = abs_mul_le lower.affine.constant (opposite (coefficient upper.affine place)) m m own.constants (let e = abs_opposite (coefficient upper.affine place) in let h = other.coefficients place inside in omega (arith, e, h)) in
    let u = abs_mul_le upper.affine.constant (coefficient lower.affine place) m m other.constants (own.coefficients place inside) in
    let s = abs_add (lower.affine.constant *ℤ opposite (coefficient upper.affine place)) (upper.affine.constant *ℤ coefficient lower.affine place) in
    omega (arith, l, u, s)

-- numbers of a size m give numbers of size 2 * m * m
made_sized : (rows : List Row) (place m : ℕ) (row : Row) → place < 16 → All (IsSized m) rows → IsMade rows place row → IsSized (2 * (m * m)) row
made_sized rows place m row inside sized (inl (member, none)) =
    let own = member_of (IsSized m) rows row sized member in
    record {
      coefficients = λ i low. let p = own.coefficients i low in let q = square_most m in omega (arith, p, q);
      constants = let p = own.constants in let q = square_most m in omega (arith, p, q);
    }
  where
    square_most : (n : ℕ) → n ≤ 2 * (n * n)
    square_most zero = omega arith
    square_most (suc n) = let p : suc n * 1 ≤ suc n * suc n = mul-le-mul_left (suc n) (omega arith) in omega (arith, p)
made_sized rows place m row inside sized (inr mix) =
    let own = member_of (IsSized m) rows mix.lower sized mix.pair.lower_in in
    let other = member_of (IsSized m) rows mix.upper sized mix.pair.upper_in in
    record {
      coefficients = λ i low. le_trans (quotient_size (mixture mix.lower mix.upper place) row.affine mix.normal i low) (mixture_sized mix.lower mix.upper place m i low inside own other);
      constants = le_trans (quotient_constant (mixture mix.lower mix.upper place) row.affine mix.normal) (mixture_constant mix.lower mix.upper place m inside own other);
    }

-- ---- powers

zero_power : (n : ℕ) → 0 < n → 0 ^ n ≡ 0
zero_power zero some = absurd (omega arith)
zero_power (suc n) some = pow-suc 0 n ∙ omega arith

power_step : (c n k : ℕ) → k < n → (c * c) ^ (2 ^ k) ≤ c ^ (2 ^ n)
power_step zero n k less = rw (zero_power (2 ^ k) (one-le-pow k 2 (omega arith))) (omega arith)
power_step (suc c) n k less =
    let double : (suc c * suc c) ^ (2 ^ k) ≡ suc c ^ (2 ^ suc k) = mul-pow (suc c) (suc c) (2 ^ k) ∙ sym (pow-add (suc c) (2 ^ k) (2 ^ k)) ∙ ap (λ t. suc c ^ t) (sym (two-pow-succ k)) in
    rw double (pow-le-pow_right (omega arith) (pow-le-pow_right (omega arith) less))

-- a number is at most its powers
power_most : (x n : ℕ) → 0 < n → x ≤ x ^ n
power_most zero n some = omega arith
power_most (suc x) zero some = absurd (omega arith)
power_most (suc x) (suc n) some =
    let p : 1 * suc x ≤ suc x ^ n * suc x = mul-le-mul_right (suc x) (one-le-pow n (suc x) (omega arith)) in
    rw pow-suc (omega (arith, p))

pub power_from : (x n : ℕ) → x ≤ x ^ (2 ^ n)
power_from x n = power_most x (2 ^ n) (one-le-pow n 2 (omega arith))

-- more places need a higher power
pub power_le : (c k n : ℕ) → k ≤ n → c ^ (2 ^ k) ≤ c ^ (2 ^ n)
power_le zero k n le = rw (zero_power (2 ^ k) (one-le-pow k 2 (omega arith))) (omega arith)
power_le (suc c) k n le = pow-le-pow_right (omega arith) (pow-le-pow_right (omega arith) le)

-- the square of a power
pub power_double : (c n : ℕ) → c ^ (2 ^ suc n) ≡ c ^ (2 ^ n) * c ^ (2 ^ n)
power_double c n = ap (λ t. c ^ t) (two-pow-succ n) ∙ pow-add c (2 ^ n) (2 ^ n)

square_power : (c n : ℕ) → 0 < n → c * c ≤ c ^ (2 ^ n)
square_power c zero some = absurd (omega arith)
square_power c (suc n) some = le_trans (power_from (c * c) n) (power_step c (suc n) n (omega arith))

-- ---- one elimination

pub modest_left : (rows : List Row) (place : ℕ) (left : List Row) (size c root : ℕ) → place < 16 → occurs place rows ≡ true → IsEliminated rows place left → IsModest size c root rows → IsModest (2 * (size * size)) (c * c) root left
modest_left rows place left size c root inside some eliminated modest = record {
  sized = all_of (IsSized (2 * (size * size))) left (λ row member. made_sized rows place size row inside modest.sized (eliminated.made row member));
  factor = let p = mul_le_mul (34 * size) c (34 * size) c modest.factor modest.factor in omega (arith, p);
  power = le_trans (power_step c (occurring rows) (occurring left) (fewer_occur rows place left inside some eliminated)) modest.power;
  root_fits = modest.root_fits;
}

-- where a place occurs c * c is at most the root
pub square_root : (rows : List Row) (place size c root : ℕ) → place < 16 → occurs place rows ≡ true → IsModest size c root rows → c * c ≤ root
square_root rows place size c root inside some modest =
    let positive : 0 < occurring rows = le_trans (omega arith) (occurring_lt 16 [] rows place inside (λ i low is. absurd (false≢true is)) refl some) in
    le_trans (square_power c (occurring rows) positive) modest.power

-- no combination of rows with small numbers is unfit
pub sized_pairs : (rows : List Row) (place size : ℕ) → place < 16 → All (IsSized size) rows → 2 * (size * size) ≤ 2 ^ 100 → ¬ HasUnfitPair rows place
sized_pairs rows place size inside sized twice unfit =
    let own = member_of (IsSized size) rows unfit.lower sized unfit.pair.lower_in in
    let other = member_of (IsSized size) rows unfit.upper sized unfit.pair.upper_in in
    let opposite_size : unsigned_abs (opposite (coefficient unfit.upper.affine place)) ≤ size = let e = abs_opposite (coefficient unfit.upper.affine place) in let h = other.coefficients place inside in omega (arith, e, h) in
    unfit.unfit (record {
      size = small_fits _ (le_trans opposite_size once);
      first = record {
        coefficients = λ i low. rw number_at_places (small_fits _ (le_trans (abs_mul_le (coefficient unfit.lower.affine i) (opposite (coefficient unfit.upper.affine place)) size size (own.coefficients i low) opposite_size) single));
        constants = small_fits _ (le_trans (abs_mul_le unfit.lower.affine.constant (opposite (coefficient unfit.upper.affine place)) size size own.constants opposite_size) single);
      };
      second = record {
        coefficients = λ i low. rw number_at_places (small_fits _ (le_trans (abs_mul_le (coefficient unfit.upper.affine i) (coefficient unfit.lower.affine place) size size (other.coefficients i low) (own.coefficients place inside)) single));
        constants = small_fits _ (le_trans (abs_mul_le unfit.upper.affine.constant (coefficient unfit.lower.affine place) size size other.constants (own.coefficients place inside)) single);
      };
      sums = record {
        coefficients = λ i low. small_fits _ (le_trans (mixture_sized unfit.lower unfit.upper place size i low inside own other) twice);
        constants = small_fits _ (le_trans (mixture_constant unfit.lower unfit.upper place size inside own other) twice);
      };
    })
  where
    single : size * size ≤ 2 ^ 100
    single = omega (arith, twice)

    square_from : (n : ℕ) → n ≤ n * n
    square_from zero = omega arith
    square_from (suc n) = let p : suc n * 1 ≤ suc n * suc n = mul-le-mul_left (suc n) (omega arith) in omega (arith, p)

    once : size ≤ 2 ^ 100
    once = le_trans (square_from size) single

pub modest_pairs : (rows : List Row) (place size c root : ℕ) → place < 16 → occurs place rows ≡ true → IsModest size c root rows → ¬ HasUnfitPair rows place
modest_pairs rows place size c root inside some modest =
    let root_small = le_trans (square_root rows place size c root inside some modest) modest.root_fits in
    let p = mul_le_mul (34 * size) c (34 * size) c modest.factor modest.factor in
    sized_pairs rows place size inside modest.sized (omega (arith, p, root_small))

-- ---- the place put back

-- what numbers of at most d leave room for
record Room (m c root d : ℕ) : Type 0 where
  form : 16 * m * d + m * d ≤ c * d
  once : c * d ≤ root
  cross : c * d * m ≤ root
  twice : c * d * c ≤ root
  move : d * m * c ≤ root
  moved : d * m ≤ root

room : (m c root d : ℕ) → 0 < c → 34 * m ≤ c → d * (c * c) ≤ root → Room m c root d
room m c root d positive factor fits =
    let by_d : 34 * m * d ≤ c * d = mul-le-mul_right d factor in
    let less : m ≤ c = omega (arith, factor) in
    let one_c : c * d * 1 ≤ c * d * c = mul-le-mul_left (c * d) positive in
    let cross_c : c * d * m ≤ c * d * c = mul-le-mul_left (c * d) less in
    let move_c : d * c * m ≤ d * c * c = mul-le-mul_left (d * c) less in
    let moved_c : d * m * 1 ≤ d * m * c = mul-le-mul_left (d * m) positive in
    record {
      form = omega (arith, by_d);
      once = omega (arith, one_c, fits);
      cross = omega (arith, cross_c, fits);
      twice = omega (arith, fits);
      move = omega (arith, move_c, fits);
      moved = omega (arith, moved_c, move_c, fits);
    }

cleared_small : (num : List ℤ) (place d : ℕ) → ((i : ℕ) → i < 16 → unsigned_abs (number_at num i) ≤ d) → (i : ℕ) → i < 16 → unsigned_abs (number_at (cleared num place) i) ≤ d
cleared_small num place d each i low = rw number_at-clear (⊎_elim
    (λ (same : (eqb i place ≡ true) × (i ≡ place)). rw same.0 (omega arith))
    (λ (apart : (eqb i place ≡ false) × (i ≢ place)). rw apart.0 (each i low))
    (eqb_tells i place))

slope_small : (side : Side) (row : Row) (place m : ℕ) → place < 16 → IsSized m row → unsigned_abs (slope_at side row place) ≤ m
slope_small Below row place m inside own = own.coefficients place inside
slope_small Above row place m inside own = let e = abs_opposite (coefficient row.affine place) in let h = own.coefficients place inside in omega (arith, e, h)

numerator_small : (side : Side) (form : ℤ) → unsigned_abs (numerator_of side form) ≡ unsigned_abs form
numerator_small Below form = abs_opposite form
numerator_small Above form = refl

module _ (rows : List Row) (place m c root d : ℕ) (num : List ℤ) (den : ℤ) (size_small : m ≤ 2 ^ 63) (inside : place < 16) (sized : All (IsSized m) rows)
    (each : (i : ℕ) → i < 16 → unsigned_abs (number_at num i) ≤ d) (denominator : unsigned_abs den ≤ d) (has : Room m c root d) (small : root ≤ 2 ^ 63) where
  base_small : (i : ℕ) → i < 16 → unsigned_abs (number_at (cleared num place) i) ≤ d
  base_small = cleared_small num place d each

  row_weight : (row : Row) → Contains rows row → weight_below 16 row.affine.coef ≤ 16 * m
  row_weight row member = weight_most 16 row.affine.coef m (member_of (IsSized m) rows row sized member).coefficients

  row_constant : (row : Row) → Contains rows row → unsigned_abs (row.affine.constant *ℤ den) ≤ m * d
  row_constant row member = abs_mul_le row.affine.constant den m d (member_of (IsSized m) rows row sized member).constants denominator

  row_form : (row : Row) → Contains rows row → unsigned_abs (form_at row.affine (cleared num place) den) ≤ c * d
  row_form row member = le_trans (form_size row.affine (cleared num place) den (16 * m) d (m * d) (row_weight row member) base_small (row_constant row member)) has.form

  modest_fits : PutBackFits rows place num den
  modest_fits = record {
    bounds = record {
      slopes = λ row side member. small_fits _ (let p = slope_small side row place m inside (member_of (IsSized m) rows row sized member) in omega (arith, p, size_small));
      forms = λ row member. form_fits row.affine (cleared num place) den (16 * m) d (m * d) (row_weight row member) base_small (row_constant row member) (let p = has.form in let q = has.once in omega (arith, p, q, small));
      crosses = λ row other side member also. small_fits _ (let p = abs_mul_le (form_at row.affine (cleared num place) den) (slope_at side other place) (c * d) m (row_form row member) (slope_small side other place m inside (member_of (IsSized m) rows other sized also)) in let q = has.cross in omega (arith, p, q, small));
    };
    moves = λ side bound own.
        let slope : unsigned_abs bound.slope ≤ m = rw own.slope (slope_small side own.row place m inside (member_of (IsSized m) rows own.row sized own.row_in)) in
        let form : unsigned_abs bound.form ≤ c * d = rw own.form (row_form own.row own.row_in) in
        record {
          numbers = record {
            coefficients = λ i low. rw number_at_places (small_fits _ (let p = abs_mul_le (number_at (cleared num place) i) bound.slope d m (base_small i low) slope in let q = has.moved in omega (arith, p, q, small)));
            constants = small_fits _ (let p = abs_mul_le den bound.slope d m denominator slope in let q = has.moved in omega (arith, p, q, small));
          };
          numerator = small_fits _ (let e = abs_opposite bound.form in let q = has.once in omega (arith, e, form, q, small));
        };
  }

  -- the point on a bound is modest again
  modest_moved : (side : Side) (bound : Bound) → IsBound rows place side (cleared num place) den bound → IsModestPoint c root (moved (cleared num place) den place side bound)
  modest_moved side bound own =
      let slope : unsigned_abs bound.slope ≤ m = rw own.slope (slope_small side own.row place m inside (member_of (IsSized m) rows own.row sized own.row_in)) in
      let form : unsigned_abs (numerator_of side bound.form) ≤ c * d = rw (numerator_small side bound.form, own.form) (row_form own.row own.row_in) in
      record {
        numerators = λ i low. rw (moved_number i low) (⊎_elim
            (λ (same : (eqb i place ≡ true) × (i ≡ place)). rw same.0 (let p = mul-le-mul_right c form in let q = has.twice in le_trans p q))
            (λ (apart : (eqb i place ≡ false) × (i ≢ place)). rw apart.0 (let p = mul-le-mul_right c (abs_mul_le (number_at (cleared num place) i) bound.slope d m (base_small i low) slope) in let q = has.move in le_trans p q))
            (eqb_tells i place));
        denominator = let p = mul-le-mul_right c (abs_mul_le den bound.slope d m denominator slope) in let q = has.move in le_trans p q;
      }
    where
      moved_number : (i : ℕ) → i < 16 → number_at (moved (cleared num place) den place side bound).num i ≡ cond (eqb i place) (numerator_of side bound.form) (number_at (cleared num place) i *ℤ bound.slope)
      moved_number i low =
          number_at-set (multiple_of (numbers_of (cleared num place) den) bound.slope).coef place i (numerator_of side bound.form) (rw length-at_places inside)
          ∙ ap (λ t. cond (eqb i place) (numerator_of side bound.form) t) (number_at_places (λ i. coefficient (numbers_of (cleared num place) den) i *ℤ bound.slope) i low)

-- ---- a modest system

-- some number of the rows is not 0
size_positive : (rows : List Row) (place m : ℕ) → place < 16 → occurs place rows ≡ true → All (IsSized m) rows → 0 < m
size_positive rows place m inside some sized =
    let found = occurs_in place rows some in
    let own = (member_of (IsSized m) rows found.0 sized found.1.0).coefficients place inside in
    ⊎_elim
    (λ (more : 0 < m). more)
    (λ (none : m ≤ 0). absurd (found.1.1 (zero_size (coefficient found.0.affine place) (omega (arith, own, none)))))
    (cases_lt 0 m)
  where
    zero_size : (z : ℤ) → unsigned_abs z ≤ 0 → z ≡ pos 0
    zero_size z none = omega (arith, ints)

quotient_le : (x k r : ℕ) → 0 < k → x * k ≤ r → x ≤ r / k
quotient_le x k r positive le = ⊎_elim
    (λ (less : r / k < x). absurd (let p : (r / k + 1) * k ≤ x * k = mul-le-mul_right k (omega (arith, less)) in omega (arith, p, le)))
    (λ (from : x ≤ r / k). from)
    (cases_lt (r / k) x)

-- what a modest system has for its places, from a modest point of what is left
record SizesGiven (rows : List Row) (place m c root : ℕ) (num : List ℤ) (den : ℤ) : Type 0 where
  d : ℕ
  has : Room m c root d
  each : (i : ℕ) → i < 16 → unsigned_abs (number_at num i) ≤ d
  denominator : unsigned_abs den ≤ d
  size_small : m ≤ 2 ^ 63
  positive : 0 < c

given : (rows : List Row) (place m c root : ℕ) (point : Point) → place < 16 → occurs place rows ≡ true → IsModest m c root rows → IsModestPoint (c * c) root point → SizesGiven rows place m c root point.num point.den
given rows place m c root point inside some modest modest_point =
    let some_size = size_positive rows place m inside some modest.sized in
    let factor = modest.factor in
    let positive : 0 < c = omega (arith, some_size, factor) in
    let squares : 1 * 1 ≤ c * c = mul_le_mul 1 c 1 c positive positive in
    let square : 0 < c * c = omega (arith, squares) in
    let square_small = square_root rows place m c root inside some modest in
    let roots = modest.root_fits in
    let single : c * 1 ≤ c * c = mul-le-mul_left c positive in
    record {
      d = root / (c * c);
      has = room m c root (root / (c * c)) positive modest.factor (floor_le root (c * c));
      each = λ i low. quotient_le _ (c * c) root square (modest_point.numerators i low);
      denominator = quotient_le _ (c * c) root square modest_point.denominator;
      size_small = omega (arith, single, square_small, roots, factor);
      positive = positive;
    }
  where
    floor_le : (r k : ℕ) → r / k * k ≤ r
    floor_le r k = div-mul-le_self r k

-- no number of the search for a value is outside
pub modest_put_back : (rows : List Row) (place m c root : ℕ) (point : Point) → place < 16 → occurs place rows ≡ true → IsModest m c root rows → IsModestPoint (c * c) root point → PutBackFits rows place point.num point.den
modest_put_back rows place m c root point inside some modest modest_point =
    let g = given rows place m c root point inside some modest modest_point in
    modest_fits rows place m c root g.d point.num point.den g.size_small inside modest.sized g.each g.denominator g.has modest.root_fits

-- and the point stays modest
pub modest_next : (rows : List Row) (place m c root : ℕ) (old point : Point) → place < 16 → occurs place rows ≡ true → IsModest m c root rows → IsModestPoint (c * c) root old → IsPutBack rows place old.num old.den point → IsModestPoint c root point
modest_next rows place m c root old point inside some modest modest_point (inl (side, (bound, (tightest, is)))) =
    let g = given rows place m c root old inside some modest modest_point in
    subst (IsModestPoint c root) (sym is) (modest_moved rows place m c root g.d old.num old.den g.size_small inside modest.sized g.each g.denominator g.has modest.root_fits side bound tightest.bounds)
modest_next rows place m c root old point inside some modest modest_point (inr (below, above, is)) =
    let g = given rows place m c root old inside some modest modest_point in
    let once = g.has.twice in
    let positive = g.positive in
    subst (IsModestPoint c root) (sym is) (record {
      numerators = λ i low. scale_le _ g.d c root (cleared_small old.num place g.d g.each i low) positive once;
      denominator = scale_le _ g.d c root g.denominator positive once;
    })
  where
    scale_le : (x d c root : ℕ) → x ≤ d → 0 < c → c * d * c ≤ root → x * c ≤ root
    scale_le x d c root le positive fits =
        let p : x * c ≤ d * c = mul-le-mul_right c le in
        let q : d * c * 1 ≤ d * c * c = mul-le-mul_left (d * c) positive in
        omega (arith, p, q, fits)

-- the origin is modest
pub modest_origin : (rows : List Row) (m c root : ℕ) (point : Point) → point ≡ record { num = at_places (λ i. pos 0); den = pos 1 } → IsModest m c root rows → IsModestPoint c root point
modest_origin rows m c root point is modest = subst (IsModestPoint c root) (sym is) (record {
  numerators = λ i low. rw number_at_places (omega arith);
  denominator = let p = le_trans (power_from c (occurring rows)) modest.power in omega (arith, p);
})
