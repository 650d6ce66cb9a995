-- Each function with unbounded numbers is one row kind and no other.
use Rattle.std.proofs.Common.{◌≡◌, ℕ, zero, suc, ◌*◌, ◌/◌, ◌<◌, ℤ, pos, negsuc, ◌+ℤ◌, ◌*ℤ◌, ◌≤ℤ◌, ◌<ℤ◌, Bool, true, false, cond, int_lt, refl, sym, ap, ◌∙◌, arith}
use Rattle.std.specs.Int.{◌∣◌}
use Rattle.std.proofs.lemmas.Int.{ints, by_lt_z, unsigned_abs-mul}
use Rattle.std.proofs.lemmas.Nat.Gcd.{dvd-zero}
use Rattle.std.proofs.Math.Nat.{dvd-mul_right, dvd_of_mul-dvd-mul_left, mul-div_cancel', mul-one}
use Rattle.linear_cons.specs.Numbers.{floor_by}
use Rattle.linear_cons.specs.Divisor.{DividesAll, IsDivisorOf, IsPrimitive, divisor_of}
use Rattle.linear_cons.specs.Functions.{IsConstant, IsQuotient, coefficient, quotient_by}
use Rattle.linear_cons.specs.Laws.Primitive.{divisor_is}
use Rattle.linear_cons.specs.Rows.{IsRowOf, kind_by, row_kind_of}
use Rattle.linear_cons.specs.declared.affine.Affine.{Affine}
use Rattle.linear_cons.specs.declared.row.RowKind.{RowKind}
use Rattle.linear_cons.specs.declared.row.RowKind.TheVariants.{Always, Never, Row as Kept}
use Rattle.linear_cons.proofs.Dividing.{exact_quotient}
use Rattle.linear_cons.proofs.Forms.{affine_same}
use Rattle.linear_cons.proofs.Places.{length-at_places, number_at_places}
use Rattle.linear_cons.proofs.Ring.{mul_add, mul_le, mul_lt, mul_one, mul_zero}
use Rattle.linear_cons.proofs.RowLaws.{divisor_zero, row_same}

-- ---- a quotient with coefficients that have no common divisor is unique

-- such a quotient is by the greatest common divisor
divisor_of_quotient : (a q : Affine) (by : IsQuotient a q) (g : ℕ) → IsPrimitive q.coef → IsDivisorOf a.coef g → g ≡ by.divisor
divisor_of_quotient a q by g primitive greatest =
    let each : DividesAll by.divisor a.coef = λ i h. rw (by.coefficients i h, unsigned_abs-mul) (dvd-mul_right by.divisor _) in
    let part : by.divisor ∣ g = greatest.greatest by.divisor each in
    let m : ℕ = g / by.divisor in
    let whole : by.divisor * m ≡ g = mul-div_cancel' by.divisor part in
    let one : m ≡ 1 = primitive m (λ i h. dvd_of_mul-dvd-mul_left m by.positive (rw (whole, ← unsigned_abs-mul (pos by.divisor), ← by.coefficients i h) (greatest.divides i h))) in
    sym whole ∙ ap (λ t. by.divisor * t) one ∙ mul-one by.divisor

-- a positive factor can be taken away
cancel : (g : ℕ) (x y : ℤ) → 0 < g → pos g *ℤ x ≡ pos g *ℤ y → x ≡ y
cancel g x y positive same =
    let above : pos 0 <ℤ pos g = omega (arith, ints) in
    by_lt_z x y
    (λ less. absurd (let p = mul_lt (pos g) x y above less in omega (arith, ints)))
    (λ from. by_lt_z y x
    (λ more. absurd (let p = mul_lt (pos g) y x above more in omega (arith, ints)))
    (λ to. omega (arith, ints)))

-- the greatest multiple at most a number is one
floor_unique : (g : ℕ) (z x y : ℤ) → 0 < g → (pos g *ℤ x) ≤ℤ z → z <ℤ (pos g *ℤ (x +ℤ pos 1)) → (pos g *ℤ y) ≤ℤ z → z <ℤ (pos g *ℤ (y +ℤ pos 1)) → x ≡ y
floor_unique g z x y positive low high also next =
    let at : pos 0 ≤ℤ pos g = omega (arith, ints) in
    by_lt_z x y
    (λ less. absurd (let step : (x +ℤ pos 1) ≤ℤ y = omega (arith, ints) in let p = mul_le (pos g) (x +ℤ pos 1) y at step in omega (arith, ints)))
    (λ from. by_lt_z y x
    (λ more. absurd (let step : (y +ℤ pos 1) ≤ℤ x = omega (arith, ints) in let p = mul_le (pos g) (y +ℤ pos 1) x at step in omega (arith, ints)))
    (λ to. omega (arith, ints)))

pub quotient_unique : (a q r : Affine) → IsQuotient a q → IsQuotient a r → IsPrimitive q.coef → IsPrimitive r.coef → ((i : ℕ) → i < 16 → coefficient q i ≡ coefficient r i) × (q.constant ≡ r.constant)
quotient_unique a q r by other primitive also =
    let greatest = divisor_is a.coef in
    let same : by.divisor ≡ other.divisor = sym (divisor_of_quotient a q by (divisor_of a.coef) primitive greatest) ∙ divisor_of_quotient a r other (divisor_of a.coef) also greatest in (
      λ i h. cancel by.divisor (coefficient q i) (coefficient r i) by.positive (sym (by.coefficients i h) ∙ rw same (other.coefficients i h)),
      floor_unique by.divisor a.constant q.constant r.constant by.positive by.at_most by.below_next (rw same other.at_most) (rw same other.below_next),
    )

pub quotient_same : (a q r : Affine) → IsQuotient a q → IsQuotient a r → IsPrimitive q.coef → IsPrimitive r.coef → q ≡ r
quotient_same a q r by other primitive also =
    let numbers = quotient_unique a q r by other primitive also in
    affine_same q r by.places other.places numbers.0 numbers.1

-- ---- each function has one row kind

-- a function with a variable is no row of none, and the other way round
never_both : (a q : Affine) → IsConstant a → IsQuotient a q → IsPrimitive q.coef → ⊥
never_both a q none by primitive =
    let noughts : IsConstant q = λ i h. cancel by.divisor (coefficient q i) (pos 0) by.positive (sym (by.coefficients i h) ∙ none i h ∙ sym (mul_zero (pos by.divisor))) in
    let all : ◌≡◌ {A = ℕ} 2 1 = primitive 2 (λ i h. rw (noughts i h) (dvd-zero 2)) in
    omega arith

pub row_unique : (a : Affine) (kind other : RowKind) → IsRowOf a kind → IsRowOf a other → kind ≡ other
row_unique a Always Always is also = refl
row_unique a Always Never is also = absurd (let low = also.1 in let high = is.1 in omega (arith, ints))
row_unique a Always (Kept row) is also = absurd (never_both a row.affine is.0 also row.primitive)
row_unique a Never Always is also = absurd (let low = is.1 in let high = also.1 in omega (arith, ints))
row_unique a Never Never is also = refl
row_unique a Never (Kept row) is also = absurd (never_both a row.affine is.0 also row.primitive)
row_unique a (Kept row) Always is also = absurd (never_both a row.affine also.0 is row.primitive)
row_unique a (Kept row) Never is also = absurd (never_both a row.affine also.0 is row.primitive)
row_unique a (Kept row) (Kept other) is also =
    ap (λ t. Kept t) (row_same row other (quotient_same a row.affine other.affine is also row.primitive other.primitive))

floor_low : (g : ℕ) (z : ℤ) → 0 < g → (pos g *ℤ floor_by g z) ≤ℤ z
floor_low g (pos n) positive = omega (arith, ints)
floor_low g (negsuc n) positive = omega (arith, ints)

floor_below : (g : ℕ) (z : ℤ) → 0 < g → z <ℤ (pos g *ℤ floor_by g z +ℤ pos g)
floor_below g (pos n) positive = omega (arith, ints)
floor_below g (negsuc n) positive = omega (arith, ints)

floor_high : (g : ℕ) (z : ℤ) → 0 < g → z <ℤ (pos g *ℤ (floor_by g z +ℤ pos 1))
floor_high g z positive = rw (mul_add (pos g) (floor_by g z) (pos 1), mul_one (pos g)) (floor_below g z positive)

quotient_is : (a : Affine) (g : ℕ) → 0 < g → IsDivisorOf a.coef g → IsQuotient a (quotient_by g a)
quotient_is a g positive divisor = record {
  divisor = g;
  positive = positive;
  places = length-at_places _;
  coefficients = λ i h. rw number_at_places (exact_quotient g (coefficient a i) (floor_by g (coefficient a i)) positive (divisor.divides i h) (floor_low g (coefficient a i) positive) (floor_high g (coefficient a i) positive));
  at_most = floor_low g a.constant positive;
  below_next = floor_high g a.constant positive;
}

constant_kind : (a : Affine) (b : Bool) → int_lt a.constant (pos 0) ≡ b → IsConstant a → IsRowOf a (cond b Never Always)
constant_kind a true is none = (none, omega (arith, ints))
constant_kind a false is none = (none, omega (arith, ints))

kind_by_is : (a : Affine) (g : ℕ) (divisor : IsDivisorOf a.coef g) → IsRowOf a (kind_by a g divisor)
kind_by_is a zero divisor = constant_kind a (int_lt a.constant (pos 0)) refl (divisor_zero a 0 refl divisor)
kind_by_is a (suc n) divisor = let positive : 0 < suc n = omega arith in quotient_is a (suc n) positive divisor

-- the row kind is the one that `IsRowOf` names, and no other is
pub row_kind_is : (a : Affine) → IsRowOf a (row_kind_of a)
unfolding row_kind_of
row_kind_is a = kind_by_is a (divisor_of a.coef) (divisor_is a.coef)

pub row_kind_unique : (a : Affine) (kind : RowKind) → IsRowOf a kind → kind ≡ row_kind_of a
row_kind_unique a kind is = row_unique a kind (row_kind_of a) is (row_kind_is a)
