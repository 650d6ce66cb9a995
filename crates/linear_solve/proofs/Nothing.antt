-- The functions of two opposed rows at a place, and a list to which a row is added.
use Rattle.std.proofs.Common.{◌≡◌, ◌≢◌, ℕ, ◌<◌, ℤ, pos, negsuc, neg_ℤ, ◌-ℤ◌, ◌*ℤ◌, ◌≤ℤ◌, ◌<ℤ◌, List, [], ◌∷◌, ◌++◌, set, refl, sym, ap, subst, ◌∙◌, arith, ⊎_elim, eqb, cond, true, false}
use Rattle.std.proofs.lemmas.Int.{ints}
use Rattle.std.proofs.lemmas.Bool.Decides.{eqb_tells}
use Rattle.std.proofs.lemmas.List.Elements.{Contains-append_left, Contains-push}
use Rattle.linear_cons.specs.declared.affine.Affine.{Affine}
use Rattle.linear_cons.specs.declared.row.Row.{Row}
use Rattle.linear_cons.specs.declared.row.RowKind.TheVariants.{Row as Kept}
use Rattle.linear_cons.specs.Functions.{coefficient, constant_of, form_at, variable_at}
use Rattle.linear_cons.specs.LinearForm.{products_below, linear_form}
use Rattle.linear_cons.specs.Numbers.{at_places, number_at}
use Rattle.linear_cons.specs.Rows.{IsRowOf, PointMeets, PointMeetsAll}
use Rattle.linear_cons.proofs.Forms.{form_variable, products_multiple, products_unit}
use Rattle.linear_cons.proofs.Places.{length-at_places, number_at-set, number_at_places}
use Rattle.linear_cons.proofs.Ring.{neg_mul, one_mul, zero_mul}
use Rattle.linear_solve.proofs.Bounding.{form_is}
use Rattle.linear_solve.proofs.Lists.{all_of, member_of}
use Rattle.linear_solve.proofs.Mixing.{kept_point}

minus_one : (z : ℤ) → negsuc 0 *ℤ z ≡ neg_ℤ z
minus_one z = neg_mul (pos 1) z ∙ ap neg_ℤ (one_mul z)

pub less_one_form : (a : Affine) (place : ℕ) → a ≡ variable_at place → place < 16 → (num : List ℤ) (den : ℤ) → form_at (record { coef = a.coef; constant = negsuc 0 }) num den ≡ number_at num place -ℤ den
unfolding linear_form
less_one_form a place is low num den =
    let whole = form_variable place num den low in
    let none = zero_mul den in
    let minus = minus_one den in
    let same : products_below 16 a.coef num ≡ products_below 16 (variable_at place).coef num = ap (λ (t : Affine). products_below 16 t.coef num) is in
    omega (arith, ints, whole, none, minus, same)

pub less_one_occurs : (a : Affine) (place : ℕ) → a ≡ variable_at place → place < 16 → coefficient a place ≡ pos 1
less_one_occurs a place is low = ap (λ (t : Affine). coefficient t place) is ∙ number_at_places (λ i. cond (eqb i place) (pos 1) (pos 0)) place low ∙ ⊎_elim
    (λ (same : (eqb place place ≡ true) × (place ≡ place)). ap (λ t. cond t (pos 1) (pos 0)) same.0)
    (λ (apart : (eqb place place ≡ false) × (place ≢ place)). absurd (apart.1 refl))
    (eqb_tells place place)

pub negative_form : (a : Affine) (place : ℕ) → a ≡ constant_of (pos 0) → place < 16 → (num : List ℤ) (den : ℤ) → form_at (record { coef = set a.coef place (negsuc 0); constant = a.constant }) num den ≡ pos 0 -ℤ number_at num place
negative_form a place is low num den = subst (λ (t : Affine). form_at (record { coef = set t.coef place (negsuc 0); constant = t.constant }) num den ≡ pos 0 -ℤ number_at num place) (sym is) own
  where
    zeros : List ℤ
    zeros = at_places (λ i. pos 0)

    multiples : (i : ℕ) → i < 16 → number_at (set zeros place (negsuc 0)) i ≡ negsuc 0 *ℤ coefficient (variable_at place) i
    multiples i h =
        number_at-set zeros place i (negsuc 0) (rw length-at_places low)
        ∙ ap (λ t. cond (eqb i place) (negsuc 0) t) (number_at_places (λ i. pos 0) i h)
        ∙ ⊎_elim
        (λ (same : (eqb i place ≡ true) × (i ≡ place)). rw (number_at_places (λ i. cond (eqb i place) (pos 1) (pos 0)) i h, same.0) refl)
        (λ (apart : (eqb i place ≡ false) × (i ≢ place)). rw (number_at_places (λ i. cond (eqb i place) (pos 1) (pos 0)) i h, apart.0) refl)
        (eqb_tells i place)

    own : form_at (record { coef = set zeros place (negsuc 0); constant = pos 0 }) num den ≡ pos 0 -ℤ number_at num place
    own =
        let products = products_multiple 16 (set zeros place (negsuc 0)) (variable_at place).coef num (negsuc 0) multiples in
        let unit = products_unit 16 place (variable_at place).coef num low (λ i h. number_at_places (λ i. cond (eqb i place) (pos 1) (pos 0)) i h) in
        let none = zero_mul den in
        let minus = minus_one (number_at num place) in
        rw (form_is, products, unit, none, minus) (omega (arith, ints))

-- a row was added
pub added_meets : (old new : List Row) (row : Row) (a : Affine) → new ≡ old ++ row ∷ [] → IsRowOf a (Kept row) → (num : List ℤ) (den : ℤ) → pos 0 <ℤ den → PointMeetsAll num den new → PointMeetsAll num den old × (pos 0 ≤ℤ form_at a num den)
added_meets old new row a is normal num den positive met =
    let whole : PointMeetsAll num den (old ++ row ∷ []) = subst (λ rows. PointMeetsAll num den rows) is met in (
      all_of (λ r. PointMeets num den r) old (λ r member. member_of (λ r. PointMeets num den r) (old ++ row ∷ []) r whole (Contains-append_left old (row ∷ []) r member)),
      kept_point a row normal num den positive (member_of (λ r. PointMeets num den r) (old ++ row ∷ []) row whole (Contains-push old row)),
    )
