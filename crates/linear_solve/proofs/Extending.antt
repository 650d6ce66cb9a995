-- From what an elimination leaves to the rows themselves: stores keep, points extend.
use Rattle.std.proofs.Common.{◌≡◌, ◌≢◌, ◌⊎◌, inl, inr, ℕ, ◌<◌, ℤ, pos, ◌+ℤ◌, ◌*ℤ◌, ◌≤ℤ◌, ◌<ℤ◌, List, [], length, set, refl, sym, ap, subst, ◌∙◌, arith, All, Contains, ⊎_elim, eqb, cond, true, false}
use Rattle.std.proofs.lemmas.Int.{ints, by_lt_z}
use Rattle.std.proofs.lemmas.Bool.Decides.{eqb_tells}
use Rattle.linear_cons.specs.declared.affine.Affine.{Affine}
use Rattle.linear_cons.specs.declared.row.Row.{Row}
use Rattle.linear_cons.specs.declared.row.RowKind.TheVariants.{Never, Row as Kept}
use Rattle.linear_cons.specs.Functions.{coefficient, form_at, multiple_of}
use Rattle.linear_cons.specs.LinearForm.{products_below, linear_form}
use Rattle.linear_cons.specs.Numbers.{number_at, at_places}
use Rattle.linear_cons.specs.Rows.{Meets, MeetsAll, PointMeets, PointMeetsAll}
use Rattle.linear_cons.proofs.Forms.{form_unmentioned, products_multiple, products_same, products_set}
use Rattle.linear_cons.proofs.Places.{length-at_places, number_at_places, number_at-clear}
use Rattle.linear_cons.proofs.Ring.{mul_add, mul_assoc, mul_commutes, mul_lt, mul_nonnegative, mul_zero, zero_mul, mul_sub, sub_mul}
use Rattle.linear_solve.specs.Answers.{HasNoStore, IsPointOf}
use Rattle.linear_solve.specs.Elimination.{HasNeverPair, IsEliminated, IsLower, IsMade, IsUpper, mixture, opposite}
use Rattle.linear_solve.specs.Points.{IsPutBack, IsTightest, cleared, moved, numbers_of, numerator_of, slope_at}
use Rattle.linear_solve.specs.declared.point.Bound.{Bound}
use Rattle.linear_solve.specs.declared.point.Point.{Point}
use Rattle.linear_solve.specs.declared.point.Side.{Side}
use Rattle.linear_solve.specs.declared.point.Side.TheVariants.{Below, Above}
use Rattle.linear_solve.proofs.Lists.{all_of, member_of}
use Rattle.linear_solve.proofs.Mixing.{kept_unmentioned, kind_met, mixture_cancels, mixture_form, mixture_met}

-- ---- stores

-- a store that meets the rows meets each row that the elimination makes
made_met : (rows : List Row) (place : ℕ) (row : Row) (store : List ℤ) → IsMade rows place row → MeetsAll store rows → Meets store row
made_met rows place row store (inl (member, none)) met = member_of (λ r. Meets store r) rows row met member
made_met rows place row store (inr mix) met =
    kind_met (mixture mix.lower mix.upper place) (Kept row) mix.normal store
    (mixture_met mix.lower mix.upper place store (pos 1) mix.pair.below mix.pair.above (member_of (λ r. Meets store r) rows mix.lower met mix.pair.lower_in) (member_of (λ r. Meets store r) rows mix.upper met mix.pair.upper_in))

pub left_met : (rows : List Row) (place : ℕ) (left : List Row) (store : List ℤ) → IsEliminated rows place left → MeetsAll store rows → MeetsAll store left
left_met rows place left store eliminated met =
    all_of (λ r. Meets store r) left (λ row member. made_met rows place row store (eliminated.made row member) met)

pub no_store_of_left : (rows : List Row) (place : ℕ) (left : List Row) → IsEliminated rows place left → HasNoStore left → HasNoStore rows
no_store_of_left rows place left eliminated none store met = none store (left_met rows place left store eliminated met)

pub no_store_of_never : (rows : List Row) (place : ℕ) → HasNeverPair rows place → HasNoStore rows
no_store_of_never rows place pair store met =
    kind_met (mixture pair.lower pair.upper place) Never pair.never store
    (mixture_met pair.lower pair.upper place store (pos 1) pair.pair.below pair.pair.above (member_of (λ r. Meets store r) rows pair.lower met pair.pair.lower_in) (member_of (λ r. Meets store r) rows pair.upper met pair.pair.upper_in))

-- ---- the place is gone

pub made_unmentioned : (rows : List Row) (place : ℕ) (row : Row) → place < 16 → IsMade rows place row → coefficient row.affine place ≡ pos 0
made_unmentioned rows place row low (inl (member, none)) = none
made_unmentioned rows place row low (inr mix) =
    kept_unmentioned (mixture mix.lower mix.upper place) row mix.normal place low (mixture_cancels mix.lower mix.upper place low)

-- any number may stand at the place
pub left_anywhere : (rows : List Row) (place : ℕ) (left : List Row) (num : List ℤ) (den z : ℤ) → place < 16 → length num ≡ 16 → IsEliminated rows place left → PointMeetsAll num den left → PointMeetsAll (set num place z) den left
left_anywhere rows place left num den z low long eliminated met =
    all_of (λ r. PointMeets (set num place z) den r) left (λ row member.
    rw (form_unmentioned row.affine place num den z (omega (arith, long)) (made_unmentioned rows place row low (eliminated.made row member))) (member_of (λ r. PointMeets num den r) left row met member))

-- ---- the form at the moved point

products_swap : (n : ℕ) (xs ys : List ℤ) → products_below n xs ys ≡ products_below n ys xs
products_swap n xs ys = products_same n xs ys ys xs (λ i h. mul_commutes (number_at xs i) (number_at ys i))

scaled_form : (a : Affine) (num : List ℤ) (den s : ℤ) → form_at a (multiple_of (numbers_of num den) s).coef (den *ℤ s) ≡ s *ℤ form_at a num den
unfolding linear_form
scaled_form a num den s =
    let scaled : List ℤ = (multiple_of (numbers_of num den) s).coef in
    let numbers : (i : ℕ) → i < 16 → number_at scaled i ≡ s *ℤ number_at num i = λ i h. number_at_places (λ i. coefficient (numbers_of num den) i *ℤ s) i h ∙ mul_commutes (number_at num i) s in
    let products : products_below 16 a.coef scaled ≡ s *ℤ products_below 16 a.coef num = products_swap 16 a.coef scaled ∙ products_multiple 16 scaled num a.coef s numbers ∙ ap (λ t. s *ℤ t) (products_swap 16 num a.coef) in
    let constants : a.constant *ℤ (den *ℤ s) ≡ s *ℤ (a.constant *ℤ den) = sym (mul_assoc a.constant den s) ∙ mul_commutes (a.constant *ℤ den) s in
    rw (products, constants, mul_add s (products_below 16 a.coef num) (a.constant *ℤ den)) refl

set_form : (a : Affine) (place : ℕ) (num : List ℤ) (den z : ℤ) → place < 16 → place < length num → number_at num place ≡ pos 0 → form_at a (set num place z) den ≡ form_at a num den +ℤ coefficient a place *ℤ z
unfolding linear_form
set_form a place num den z low inside none =
    let others : products_below 16 (set a.coef place (pos 0)) num ≡ products_below 16 a.coef num =
    products_same 16 (set a.coef place (pos 0)) a.coef num num (λ i h. ⊎_elim
    (λ (same : (eqb i place ≡ true) × (i ≡ place)). rw (same.1, none, mul_zero, mul_zero) refl)
    (λ (apart : (eqb i place ≡ false) × (i ≢ place)). rw (number_at-clear a.coef place i, apart.0) refl)
    (eqb_tells i place)) in
    let whole = products_set 16 place a.coef num z low inside in
    omega (arith, ints, whole, others)

pub moved_form : (a : Affine) (num : List ℤ) (den : ℤ) (place : ℕ) (side : Side) (bound : Bound) → place < 16 → number_at num place ≡ pos 0 → form_at a (moved num den place side bound).num (moved num den place side bound).den ≡ bound.slope *ℤ form_at a num den +ℤ coefficient a place *ℤ numerator_of side bound.form
moved_form a num den place side bound low none =
    let scaled : List ℤ = (multiple_of (numbers_of num den) bound.slope).coef in
    let long : length scaled ≡ 16 = length-at_places _ in
    let nought : number_at scaled place ≡ pos 0 = number_at_places (λ i. coefficient (numbers_of num den) i *ℤ bound.slope) place low ∙ ap (λ t. t *ℤ bound.slope) none ∙ zero_mul bound.slope in
    set_form a place scaled (den *ℤ bound.slope) (numerator_of side bound.form) low (omega (arith, long)) nought ∙ ap (λ t. t +ℤ coefficient a place *ℤ numerator_of side bound.form) (scaled_form a num den bound.slope)

-- ---- the place on its tightest bound

-- the sign of a number
sign : (z : ℤ) → (z ≡ pos 0) ⊎ ((pos 0 <ℤ z) ⊎ (z <ℤ pos 0))
sign z = by_lt_z z (pos 0) (λ less. inr (inr less)) (λ from. by_lt_z (pos 0) z (λ more. inr (inl more)) (λ to. inl (omega (arith, ints))))

module _ (rows : List Row) (place : ℕ) (num : List ℤ) (den : ℤ)
    (rest : All (λ row. coefficient row.affine place ≡ pos 0 → PointMeets num den row) rows)
    (pairs : All (λ lower. IsLower place lower → All (λ upper. IsUpper place upper → pos 0 ≤ℤ form_at (mixture lower upper place) num den) rows) rows) where
  -- a pair's combination, in the two rows' forms
  pair_form : (lower upper : Row) → Contains rows lower → Contains rows upper → IsLower place lower → IsUpper place upper → pos 0 ≤ℤ (opposite (coefficient upper.affine place) *ℤ form_at lower.affine num den +ℤ coefficient lower.affine place *ℤ form_at upper.affine num den)
  pair_form lower upper lower_in upper_in below above =
      let each = member_of (λ lower. IsLower place lower → All (λ upper. IsUpper place upper → pos 0 ≤ℤ form_at (mixture lower upper place) num den) rows) rows lower pairs lower_in below in
      rw mixture_form at (member_of (λ upper. IsUpper place upper → pos 0 ≤ℤ form_at (mixture lower upper place) num den) rows upper each upper_in above)

  on_bound : (side : Side) (bound : Bound) → IsTightest rows place side num den bound → (row : Row) → Contains rows row → pos 0 ≤ℤ (bound.slope *ℤ form_at row.affine num den +ℤ coefficient row.affine place *ℤ numerator_of side bound.form)
  on_bound Below bound tightest row member =
      let k : ℤ = coefficient row.affine place in
      let form : ℤ = form_at row.affine num den in
      let own = tightest.bounds in
      ⊎_elim
      (λ (none : k ≡ pos 0).
      let met = mul_nonnegative bound.slope form (let p = own.positive in omega (arith, ints)) (member_of (λ row. coefficient row.affine place ≡ pos 0 → PointMeets num den row) rows row rest member none) in
      rw (none, zero_mul) (omega (arith, ints)))
      (λ (some : (pos 0 <ℤ k) ⊎ (k <ℤ pos 0)). ⊎_elim
      (λ (more : pos 0 <ℤ k).
      let least = member_of (λ row. pos 0 <ℤ slope_at Below row place → (bound.form *ℤ slope_at Below row place) ≤ℤ (form_at row.affine num den *ℤ bound.slope)) rows row tightest.least member more in
      rw (mul_sub k (pos 0) bound.form, mul_zero k, mul_commutes bound.slope form, mul_commutes k bound.form) (omega (arith, ints)))
      (λ (less : k <ℤ pos 0).
      let below : IsLower place own.row = rw own.slope at own.positive in
      let mix = rw (← own.form, ← own.slope) at (pair_form own.row row own.row_in member below less) in
      rw (mul_sub k (pos 0) bound.form, mul_zero k) (let e = sub_mul (pos 0) k bound.form in let z = zero_mul bound.form in omega (arith, ints)))
      some)
      (sign k)
  on_bound Above bound tightest row member =
      let k : ℤ = coefficient row.affine place in
      let form : ℤ = form_at row.affine num den in
      let own = tightest.bounds in
      ⊎_elim
      (λ (none : k ≡ pos 0).
      let met = mul_nonnegative bound.slope form (let p = own.positive in omega (arith, ints)) (member_of (λ row. coefficient row.affine place ≡ pos 0 → PointMeets num den row) rows row rest member none) in
      rw (none, zero_mul) (omega (arith, ints)))
      (λ (some : (pos 0 <ℤ k) ⊎ (k <ℤ pos 0)). ⊎_elim
      (λ (more : pos 0 <ℤ k).
      let above : IsUpper place own.row = let p = own.positive in let e = own.slope in omega (arith, ints) in
      let mix = rw (← own.form, ← own.slope) at (pair_form row own.row member own.row_in more above) in
      mix)
      (λ (less : k <ℤ pos 0).
      let least = member_of (λ row. pos 0 <ℤ slope_at Above row place → (bound.form *ℤ slope_at Above row place) ≤ℤ (form_at row.affine num den *ℤ bound.slope)) rows row tightest.least member (omega (arith, ints)) in
      let e = mul_sub bound.form (pos 0) k in
      let z = mul_zero bound.form in
      rw (mul_commutes bound.slope form, mul_commutes k bound.form) (omega (arith, ints)))
      some)
      (sign k)

-- a positive factor times a positive one
product_positive : (a b : ℤ) → pos 0 <ℤ a → pos 0 <ℤ b → pos 0 <ℤ (a *ℤ b)
product_positive a b more also = let p = mul_lt a (pos 0) b more also in let z = mul_zero a in omega (arith, ints)

cleared_at : (num : List ℤ) (place : ℕ) → number_at (cleared num place) place ≡ pos 0
cleared_at num place = number_at-clear num place place ∙ ⊎_elim
    (λ (same : (eqb place place ≡ true) × (place ≡ place)). ap (λ t. cond t (pos 0) (number_at num place)) same.0)
    (λ (apart : (eqb place place ≡ false) × (place ≢ place)). absurd (apart.1 refl))
    (eqb_tells place place)

-- the point with the place put back meets the rows
pub put_back_meets : (rows : List Row) (place : ℕ) (left : List Row) (num : List ℤ) (den : ℤ) (point : Point) → place < 16 → length num ≡ 16 → IsEliminated rows place left → IsPointOf left num den → IsPutBack rows place num den point → IsPointOf rows point.num point.den
put_back_meets rows place left num den point low long eliminated meets (inl (side, (bound, (tightest, is)))) =
    let base : List ℤ = cleared num place in
    let met : PointMeetsAll base den left = left_anywhere rows place left num den (pos 0) low long eliminated meets.meets in
    let rest = eliminated.rest base den meets.positive met in
    let pairs = eliminated.pairs base den meets.positive met in
    subst (λ (t : Point). IsPointOf rows t.num t.den) (sym is) (record {
      positive = product_positive den bound.slope meets.positive tightest.bounds.positive;
      meets = all_of (λ r. PointMeets (moved base den place side bound).num (moved base den place side bound).den r) rows (λ row member.
          rw (moved_form row.affine base den place side bound low (cleared_at num place)) (on_bound rows place base den rest pairs side bound tightest row member));
    })
put_back_meets rows place left num den point low long eliminated meets (inr (below, above, is)) =
    let base : List ℤ = cleared num place in
    let met : PointMeetsAll base den left = left_anywhere rows place left num den (pos 0) low long eliminated meets.meets in
    let rest = eliminated.rest base den meets.positive met in
    subst (λ (t : Point). IsPointOf rows t.num t.den) (sym is) (record {
      positive = meets.positive;
      meets = all_of (λ r. PointMeets base den r) rows (λ row member.
          let not_more = member_of (λ row. pos 0 <ℤ slope_at Below row place → ⊥) rows row below member in
          let not_less = member_of (λ row. pos 0 <ℤ slope_at Above row place → ⊥) rows row above member in
          member_of (λ row. coefficient row.affine place ≡ pos 0 → PointMeets base den row) rows row rest member (⊎_elim
          (λ (none : coefficient row.affine place ≡ pos 0). none)
          (λ (some : (pos 0 <ℤ coefficient row.affine place) ⊎ (coefficient row.affine place <ℤ pos 0)). ⊎_elim
          (λ (more : pos 0 <ℤ coefficient row.affine place). absurd (not_more more))
          (λ (less : coefficient row.affine place <ℤ pos 0). absurd (not_less (omega (arith, ints))))
          some)
          (sign (coefficient row.affine place))));
    })

-- any point meets a list without rows
pub origin_meets : (rows : List Row) (point : Point) → rows ≡ [] → point ≡ record { num = at_places (λ i. pos 0); den = pos 1 } → IsPointOf rows point.num point.den
origin_meets rows point none is = subst (λ (t : Point). IsPointOf rows t.num t.den) (sym is) (record {
  positive = omega (arith, ints);
  meets = λ k d low. absurd (let e = ap length none in omega (arith, e, low));
})
