-- The bounds that an assignment gives its place.
use Rattle.std.proofs.Common.{◌≡◌, ℕ, ℤ, pos, neg_ℤ, ◌+ℤ◌, ◌-ℤ◌, ◌≤ℤ◌, List, Option, None, Some, arith}
use Rattle.std.proofs.Common.{◌∙◌, refl, sym, ap, subst}
use Rattle.std.proofs.lemmas.Int.{ints}
use Rattle.linear_cons.specs.Functions.{IsConstant}
use Rattle.linear_cons.proofs.RowLaws.{constant_value}
use Rattle.linear_cons.specs.Numbers.{Fits128}
use Rattle.linear_cons.proofs.KnownEnds.{known_end}
use Rattle.linear_cons.specs.declared.bounds.Linear.{Linear}
use Rattle.linear_cons.specs.Bounds.{Covers, IsFrom, IsUpTo}
use Rattle.linear_cons.specs.Functions.{value_at}
use Rattle.linear_cons.proofs.EndLaws.{from_sum, up_to_end, up_to_same, up_to_sum}
use Rattle.linear_cons.proofs.Sums.{value_is}
use Rattle.octagon_dom.specs.Assignments.{FitsEnds, above_terms, below_terms}
use Rattle.octagon_dom.specs.Cells.{negative_end, signed, sum_end}
use Rattle.octagon_dom.specs.Stated.{IsHalfSized}
use Rattle.octagon_dom.specs.Terms.{IsOneTerm}

pub up_to_negative : (end : Option ℤ) (z : ℤ) → IsFrom end z → IsUpTo (negative_end end) (neg_ℤ z)
up_to_negative None z h = tt
up_to_negative (Some a) z h = up_to_end (neg_ℤ a) (neg_ℤ z) (omega (arith, ints))

pub one_value : (value : Linear) (term : ℕ) (store : List ℤ) → IsOneTerm 16 value.affine term
    → value_at value.affine store ≡ signed store term +ℤ value.affine.constant
one_value value term store one =
    let products = one.sum store in
    let is = value_is value.affine.coef value.affine.constant store in
    omega (arith, ints)

pub no_value : (value : Linear) (store : List ℤ) → IsConstant value.affine
    → value_at value.affine store ≡ pos 0 +ℤ value.affine.constant
no_value value store none = let is = constant_value value.affine store none in omega (arith, ints)

module _ (value : Linear) (store : List ℤ) (z terms : ℤ) (is : value_at value.affine store
    ≡ terms +ℤ value.affine.constant) (covers : Covers value store z) where
  pub assigned_up : IsUpTo (above_terms value) (z -ℤ terms)
  assigned_up =
      let same : value.affine.constant ≤ℤ value.affine.constant = omega (arith, ints) in
      up_to_same (above_terms value) _ _ (omega (arith, ints))
      (up_to_sum (Some value.affine.constant) value.hi value.affine.constant (z -ℤ value_at value.affine store) same covers.upper)

  pub assigned_down : IsUpTo (below_terms value) (terms -ℤ z)
  assigned_down =
      let same : value.affine.constant ≤ℤ value.affine.constant = omega (arith, ints) in
      up_to_same (below_terms value) _ _ (omega (arith, ints))
      (up_to_negative (sum_end (Some value.affine.constant) value.lo) (value.affine.constant +ℤ (z -ℤ value_at value.affine store))
      (from_sum (Some value.affine.constant) value.lo value.affine.constant (z -ℤ value_at value.affine store) same covers.lower))

-- ---- the other way round

half_fits : (z : ℤ) → IsHalfSized z → Fits128 z
half_fits z half = let from = half.from in let below = half.below in omega (arith, ints)

double_fits : (z : ℤ) → IsHalfSized z → Fits128 (z +ℤ z)
double_fits z half = let from = half.from in let below = half.below in omega (arith, ints)

pub above_known : (value : Linear) (end : ℤ) → FitsEnds value → value.hi ≡ Some end
    → above_terms value ≡ Some (value.affine.constant +ℤ end)
above_known value end fits is =
    ap (sum_end (Some value.affine.constant)) is ∙ known_end (value.affine.constant +ℤ end) (half_fits _ (fits.upper end is))

pub below_known : (value : Linear) (end : ℤ) → FitsEnds value → value.lo ≡ Some end
    → below_terms value ≡ Some (neg_ℤ (value.affine.constant +ℤ end))
below_known value end fits is =
    ap (λ e. negative_end (sum_end (Some value.affine.constant) e)) is
    ∙ ap negative_end (known_end (value.affine.constant +ℤ end) (half_fits _ (fits.lower end is)))
    ∙ known_end (neg_ℤ (value.affine.constant +ℤ end)) (half_fits _ (fits.turned end is))

-- a number that far above and below the terms is one that the expression may have
pub covers_of : (value : Linear) (store : List ℤ) (z terms : ℤ) → FitsEnds value → value_at value.affine store
    ≡ terms +ℤ value.affine.constant
    → IsUpTo (above_terms value) (z -ℤ terms) → IsUpTo (below_terms value) (terms -ℤ z) → Covers value store z
covers_of value store z terms fits is above below = record {
  lower = from value.lo refl;
  upper = to value.hi refl;
}
  where
    from : (o : Option ℤ) → value.lo ≡ o → IsFrom value.lo (z -ℤ value_at value.affine store)
    from None same = rw same tt
    from (Some end) same = rw same
        (let known = subst (λ e. IsUpTo e (terms -ℤ z)) (below_known value end fits same) below in omega (arith, ints))

    to : (o : Option ℤ) → value.hi ≡ o → IsUpTo value.hi (z -ℤ value_at value.affine store)
    to None same = rw same tt
    to (Some end) same = rw same
        (let known = subst (λ e. IsUpTo e (z -ℤ terms)) (above_known value end fits same) above in omega (arith, ints))

-- a bound on twice a number is one on the number, where the double fits
pub half_above : (value : Linear) (z : ℤ) → FitsEnds value → IsUpTo (sum_end (above_terms value) (above_terms value)) (z +ℤ z)
    → IsUpTo (above_terms value) z
half_above value z fits twice = decided value.hi refl
  where
    decided : (o : Option ℤ) → value.hi ≡ o → IsUpTo (above_terms value) z
    decided None same = rw same tt
    decided (Some end) same =
        let known = above_known value end fits same in
        let double : sum_end (above_terms value) (above_terms value)
        ≡ Some (value.affine.constant +ℤ end +ℤ (value.affine.constant +ℤ end)) =
        ap (λ e. sum_end e e) known ∙ known_end _ (double_fits _ (fits.upper end same)) in
        let most = subst (λ e. IsUpTo e (z +ℤ z)) double twice in
        subst (λ e. IsUpTo e z) (sym known) (omega (arith, ints))

pub half_below : (value : Linear) (z : ℤ) → FitsEnds value → IsUpTo (sum_end (below_terms value) (below_terms value)) (z +ℤ z)
    → IsUpTo (below_terms value) z
half_below value z fits twice = decided value.lo refl
  where
    decided : (o : Option ℤ) → value.lo ≡ o → IsUpTo (below_terms value) z
    decided None same = rw same tt
    decided (Some end) same =
        let known = below_known value end fits same in
        let double : sum_end (below_terms value) (below_terms value)
        ≡ Some (neg_ℤ (value.affine.constant +ℤ end) +ℤ neg_ℤ (value.affine.constant +ℤ end)) =
        ap (λ e. sum_end e e) known ∙ known_end _ (double_fits _ (fits.turned end same)) in
        let most = subst (λ e. IsUpTo e (z +ℤ z)) double twice in
        subst (λ e. IsUpTo e z) (sym known) (omega (arith, ints))
