-- The spreadings of an affine test for its two outcomes are dual.
use Rattle.std.proofs.Common.{◌≡◌, ℕ, pos, negsuc, ◌-ℤ◌, Bool, true, false, not, Some, List, [], ◌∷◌, inl, sym, subst, ap, ◌∙◌, arith}
use Rattle.std.proofs.lemmas.Int.{ints}
use Rattle.step_meaning.specs.declared.expression.Op2.{Op2}
use Rattle.step_meaning.specs.declared.expression.Op2.TheVariants.{Less, LessEqual, Greater, GreaterEqual, Equal, NotEqual, And, Or}
use Rattle.step_meaning.specs.Syntax.{Expression, number, variable, free, range, truth, negative, negation, pair, divided}
use Rattle.step_meaning.specs.AffineExpressions.{ComparisonFits, FunctionFits, IsAffine, IsAffineTest, TestFits, constant_in, less, strictly_less}
use Rattle.step_meaning.specs.Valid.{IsTest}
use Rattle.linear_cons.specs.declared.bounds.Bounds.{Bounds}
use Rattle.linear_cons.specs.declared.row.Row.{Row}
use Rattle.linear_cons.specs.declared.row.RowKind.{RowKind}
use Rattle.linear_cons.specs.Functions.{coefficient, complement_of, constant_of}
use Rattle.linear_cons.specs.Rows.{row_kind_of}
use Rattle.linear_cons.proofs.Places.{number_at_places}
use Rattle.linear_forms.specs.Duality.{AreDual}
use Rattle.linear_cons.specs.Ends.{exactly}
use Rattle.linear_forms.specs.Linearising.{linear_of}
use Rattle.step_meaning.specs.Countdown.{form_of}
use Rattle.linear_forms.specs.Spreading.{Claim, all_rows_of, claims, comparison_for, constraint, kept_before, opposite, spread_of, with_constraint}
use Rattle.linear_forms.proofs.AffineForms.{coefficient_of_form, is_form}
use Rattle.linear_forms.proofs.Counts.{IsComparison}
use Rattle.linear_forms.proofs.DualLists.{AreComplements, alone, alone_dual, both_dual, both_of, complement_kinds, either_dual, either_of, joined_dual, pairs_dual}
use Rattle.linear_forms.proofs.Exactness.{linear_exact}
use Rattle.linear_forms.proofs.SpreadExactness.{claimed, exact_constraint}

-- ---- claims the other way round

opposite_form : (strict : Bool) (l r : Expression) → complement_of (form_of (claimed strict l r)) ≡ form_of (claimed (not strict) r l)
opposite_form true l r =
    is_form (λ i. coefficient (constant_of (negsuc 0)) i -ℤ coefficient (form_of (strictly_less l r)) i) (negsuc 0 -ℤ constant_in (strictly_less l r)) (less r l)
    (λ i h. rw (coefficient_of_form (strictly_less l r) i h, number_at_places (λ j. pos 0) i h) (omega (arith, ints))) (omega (arith, ints))
opposite_form false l r =
    is_form (λ i. coefficient (constant_of (negsuc 0)) i -ℤ coefficient (form_of (less l r)) i) (negsuc 0 -ℤ constant_in (less l r)) (strictly_less r l)
    (λ i h. rw (coefficient_of_form (less l r) i h, number_at_places (λ j. pos 0) i h) (omega (arith, ints))) (omega (arith, ints))

abbrev kind : Bool → Expression → Expression → RowKind
kind strict l r = row_kind_of (form_of (claimed strict l r))

complements : (strict : Bool) (l r : Expression) → AreComplements (kind strict l r) (kind (not strict) r l)
complements strict l r = complement_kinds (form_of (claimed strict l r)) (form_of (claimed (not strict) r l)) (sym (opposite_form strict l r))

-- ---- comparisons

abbrev claim : Bool → Expression → Expression → Claim
claim strict l r = record { greater = exactly (form_of l); smaller = exactly (form_of r); is_strict = strict }

fits_of : (strict : Bool) (l r : Expression) → ComparisonFits l r → FunctionFits (claimed strict l r)
fits_of true l r fit = fit.strict_difference
fits_of false l r fit = fit.difference

turned : (l r : Expression) → ComparisonFits l r → ComparisonFits r l
turned l r fit = record {
  left = fit.right;
  right = fit.left;
  difference = fit.opposite;
  opposite = fit.difference;
  strict_difference = fit.strict_opposite;
  strict_opposite = fit.strict_difference;
}

alone_is : (strict : Bool) (l r : Expression) → ComparisonFits l r → all_rows_of ((claim strict l r ∷ []) ∷ []) ≡ alone (kind strict l r)
alone_is strict l r fit = ap (λ f. kept_before (with_constraint f (Some [])) []) (exact_constraint strict l r fit.difference (fits_of strict l r fit))

both_is : (l r : Expression) → ComparisonFits l r → all_rows_of ((claim false l r ∷ claim false r l ∷ []) ∷ []) ≡ both_of (kind false l r) (kind false r l)
both_is l r fit =
    ap (λ f. kept_before (with_constraint f (with_constraint (constraint (claim false r l)) (Some []))) []) (exact_constraint false l r fit.difference fit.difference)
    ∙ ap (λ f. kept_before (with_constraint (Some (form_of (less l r))) (with_constraint f (Some []))) []) (exact_constraint false r l fit.opposite fit.opposite)

either_is : (l r : Expression) → ComparisonFits l r → all_rows_of ((claim true l r ∷ []) ∷ (claim true r l ∷ []) ∷ []) ≡ either_of (kind true l r) (kind true r l)
either_is l r fit =
    ap (λ f. kept_before (with_constraint f (Some [])) (kept_before (with_constraint (constraint (claim true r l)) (Some [])) [])) (exact_constraint true l r fit.difference fit.strict_difference)
    ∙ ap (λ f. kept_before (with_constraint (Some (form_of (strictly_less l r))) (Some [])) (kept_before (with_constraint f (Some [])) [])) (exact_constraint true r l fit.opposite fit.strict_opposite)

dual_as : (xs ys us vs : List (List Row)) → xs ≡ us → ys ≡ vs → AreDual us vs → AreDual xs ys
dual_as xs ys us vs first second dual = subst (λ t. AreDual t ys) (sym first) (subst (AreDual us) (sym second) dual)

single_dual : (strict : Bool) (l r : Expression) → ComparisonFits l r → AreDual (all_rows_of ((claim strict l r ∷ []) ∷ [])) (all_rows_of ((claim (not strict) r l ∷ []) ∷ []))
single_dual strict l r fit = dual_as _ _ _ _ (alone_is strict l r fit) (alone_is (not strict) r l (turned l r fit)) (alone_dual (kind strict l r) (kind (not strict) r l) (complements strict l r))

claims_dual : (op : Op2) (l r : Expression) → ComparisonFits l r → IsComparison op → AreDual (all_rows_of (claims op (exactly (form_of l)) (exactly (form_of r)))) (all_rows_of (claims (opposite op) (exactly (form_of l)) (exactly (form_of r))))
claims_dual Less l r fit is = single_dual true r l (turned l r fit)
claims_dual LessEqual l r fit is = single_dual false r l (turned l r fit)
claims_dual Greater l r fit is = single_dual true l r fit
claims_dual GreaterEqual l r fit is = single_dual false l r fit
claims_dual Equal l r fit is =
    dual_as _ _ _ _ (both_is l r fit) (either_is l r fit) (both_dual (kind false l r) (kind true r l) (complements false l r) (kind false r l) (kind true l r) (complements false r l))
claims_dual NotEqual l r fit is =
    dual_as _ _ _ _ (either_is l r fit) (both_is l r fit) (either_dual (kind true l r) (kind false r l) (complements true l r) (kind true r l) (kind false l r) (complements true r l))
claims_dual _ l r fit is = absurd is

outcomes_dual : (op : Op2) (l r : Expression) → ComparisonFits l r → IsComparison op → (t : Bool) → AreDual (all_rows_of (claims (comparison_for t op) (exactly (form_of l)) (exactly (form_of r)))) (all_rows_of (claims (comparison_for (not t) op) (exactly (form_of l)) (exactly (form_of r))))
outcomes_dual op l r fit is true = claims_dual op l r fit is
outcomes_dual Less l r fit is false = claims_dual GreaterEqual l r fit is
outcomes_dual LessEqual l r fit is false = claims_dual Greater l r fit is
outcomes_dual Greater l r fit is false = claims_dual LessEqual l r fit is
outcomes_dual GreaterEqual l r fit is false = claims_dual Less l r fit is
outcomes_dual Equal l r fit is false = claims_dual NotEqual l r fit is
outcomes_dual NotEqual l r fit is false = claims_dual Equal l r fit is
outcomes_dual _ l r fit is false = absurd is

compared_dual : (op : Op2) (bounds : Bounds) (l r : Expression) → IsAffine l × IsAffine r → ComparisonFits l r → IsComparison op → (t : Bool) → AreDual (all_rows_of (claims (comparison_for t op) (linear_of bounds l) (linear_of bounds r))) (all_rows_of (claims (comparison_for (not t) op) (linear_of bounds l) (linear_of bounds r)))
compared_dual op bounds l r affine fit is t =
    let rows : Bool → List (List Row) = λ o. all_rows_of (claims (comparison_for o op) (linear_of bounds l) (linear_of bounds r)) in
    let same : (o : Bool) → rows o ≡ all_rows_of (claims (comparison_for o op) (exactly (form_of l)) (exactly (form_of r))) =
    λ o. ap (λ x. all_rows_of (claims (comparison_for o op) x (linear_of bounds r))) (linear_exact bounds l affine.0 fit.left)
    ∙ ap (λ y. all_rows_of (claims (comparison_for o op) (exactly (form_of l)) y)) (linear_exact bounds r affine.1 fit.right) in
    dual_as _ _ _ _ (same t) (same (not t)) (outcomes_dual op l r fit is t)

-- ---- tests

holding_dual : AreDual ([] ∷ []) []
holding_dual = record { exclude = (tt, tt); hold = λ p h. absurd h.0 }

failing_dual : AreDual [] ([] ∷ [])
failing_dual = record { exclude = tt; hold = λ p h. inl tt }

pub spread_dual : (vars : ℕ) (bounds : Bounds) (c : Expression) → IsTest vars c → IsAffineTest c → TestFits c → (t : Bool) → AreDual (spread_of bounds c t) (spread_of bounds c (not t))
spread_dual vars bounds (number z) sort affine fit t = absurd sort
spread_dual vars bounds (variable x) sort affine fit t = absurd sort
spread_dual vars bounds free sort affine fit t = absurd affine
spread_dual vars bounds (range lo hi) sort affine fit t = absurd sort
spread_dual vars bounds (truth true) sort affine fit true = holding_dual
spread_dual vars bounds (truth true) sort affine fit false = failing_dual
spread_dual vars bounds (truth false) sort affine fit true = failing_dual
spread_dual vars bounds (truth false) sort affine fit false = holding_dual
spread_dual vars bounds (negative e) sort affine fit t = absurd sort
spread_dual vars bounds (divided division e b) sort affine fit t = absurd sort
spread_dual vars bounds (negation c) sort affine fit t = spread_dual vars bounds c sort affine fit (not t)
spread_dual vars bounds (pair And l r) sort affine fit true =
    pairs_dual (spread_of bounds l true) (spread_of bounds r true) (spread_of bounds l false) (spread_of bounds r false) (spread_dual vars bounds l sort.0 affine.0 fit.0 true) (spread_dual vars bounds r sort.1 affine.1 fit.1 true)
spread_dual vars bounds (pair And l r) sort affine fit false =
    joined_dual (spread_of bounds l false) (spread_of bounds r false) (spread_of bounds l true) (spread_of bounds r true) (spread_dual vars bounds l sort.0 affine.0 fit.0 false) (spread_dual vars bounds r sort.1 affine.1 fit.1 false)
spread_dual vars bounds (pair Or l r) sort affine fit true =
    joined_dual (spread_of bounds l true) (spread_of bounds r true) (spread_of bounds l false) (spread_of bounds r false) (spread_dual vars bounds l sort.0 affine.0 fit.0 true) (spread_dual vars bounds r sort.1 affine.1 fit.1 true)
spread_dual vars bounds (pair Or l r) sort affine fit false =
    pairs_dual (spread_of bounds l false) (spread_of bounds r false) (spread_of bounds l true) (spread_of bounds r true) (spread_dual vars bounds l sort.0 affine.0 fit.0 false) (spread_dual vars bounds r sort.1 affine.1 fit.1 false)
spread_dual vars bounds (pair Less l r) sort affine fit t = compared_dual Less bounds l r affine fit tt t
spread_dual vars bounds (pair LessEqual l r) sort affine fit t = compared_dual LessEqual bounds l r affine fit tt t
spread_dual vars bounds (pair Greater l r) sort affine fit t = compared_dual Greater bounds l r affine fit tt t
spread_dual vars bounds (pair GreaterEqual l r) sort affine fit t = compared_dual GreaterEqual bounds l r affine fit tt t
spread_dual vars bounds (pair Equal l r) sort affine fit t = compared_dual Equal bounds l r affine fit tt t
spread_dual vars bounds (pair NotEqual l r) sort affine fit t = compared_dual NotEqual bounds l r affine fit tt t
spread_dual vars bounds (pair _ l r) sort affine fit t = absurd sort
