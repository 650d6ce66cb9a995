-- The spreading of an affine test whose numbers fit is exact: a store that meets a conjunction is one at which the test may have the outcome.
use Rattle.std.proofs.Common.{◌≡◌, ◌≢◌, ℕ, ◌≤◌, ℤ, pos, ◌+ℤ◌, ◌-ℤ◌, ◌≤ℤ◌, ◌<ℤ◌, ◌↔◌, inl, inr, ⊎_elim, Bool, true, false, not, ◌&&◌, ◌||◌, IsTrue, Option, Some, None, List, [], ◌∷◌, refl, sym, subst, ap, ◌∙◌, arith}
use Rattle.std.proofs.lemmas.Int.{ints, by_lt_z}
use Rattle.step_meaning.specs.declared.expression.Op2.{Op2}
use Rattle.step_meaning.specs.declared.expression.Op2.TheVariants.{Less, LessEqual, Greater, GreaterEqual, Equal, NotEqual, And, Or}
use Rattle.step_meaning.specs.Syntax.{Expression, number, variable, free, range, truth, negative, negation, pair, divided}
use Rattle.step_meaning.specs.Naming.{NamesBelow}
use Rattle.step_meaning.specs.AffineExpressions.{ComparisonFits, FunctionFits, IsAffine, IsAffineTest, TestFits, coefficient_in, constant_in, less, strictly_less}
use Rattle.step_meaning.specs.Outcome.{Compares, MayTest}
use Rattle.step_meaning.specs.Valid.{IsNumber, IsTest}
use Rattle.linear_cons.specs.declared.affine.Affine.{Affine}
use Rattle.linear_cons.specs.declared.bounds.Bounds.{Bounds}
use Rattle.linear_cons.specs.declared.bounds.Linear.{Linear}
use Rattle.linear_cons.specs.declared.row.Row.{Row}
use Rattle.linear_cons.specs.Functions.{coefficient, constant_of, difference_of, sum_of, value_at}
use Rattle.linear_cons.proofs.Forms.{value_constant, value_difference}
use Rattle.linear_cons.specs.Rows.{row_kind_of}
use Rattle.linear_cons.proofs.Places.{number_at_places}
use Rattle.linear_cons.proofs.Ring.{add_zero}
use Rattle.linear_cons.specs.Ends.{ends_from, exactly, fits}
use Rattle.linear_forms.specs.Linearising.{linear_of, numbers_fit}
use Rattle.step_meaning.specs.Countdown.{form_of}
use Rattle.linear_forms.specs.Meeting.{MeetsOne}
use Rattle.linear_forms.specs.Spreading.{Claim, above, all_rows_of, at_least, claims, comparison_for, constraint, favoured, fitting, less_one, rows_of, spread_of, with_constraint}
use Rattle.linear_forms.proofs.AffineForms.{coefficient_of_form, form_fits, form_of_difference, form_of_strict_difference, is_form}
use Rattle.linear_forms.proofs.Comparing.{fails, holds, less_nothing, off, outcome_holds}
use Rattle.linear_forms.proofs.Exactness.{linear_exact, may_have_value}
use Rattle.linear_forms.proofs.Known.{numbers_fit_decides}
use Rattle.linear_cons.proofs.KnownEnds.{when_so}
use Rattle.linear_forms.proofs.MeetingLaws.{MeetsKept, met_before, met_either, met_kept, met_pairs, row_meets}
use Rattle.linear_forms.proofs.Naming.{number_names}

-- ---- constraints of exact forms

fitting_form : (e : Expression) → FunctionFits e → fitting (form_of e) ≡ Some (form_of e)
fitting_form e fit = when_so (numbers_fit (form_of e)) (Some (form_of e)) None ((numbers_fit_decides (form_of e)).1 (form_fits e fit))

-- nothing is added
plus_nothing : (e : Expression) → sum_of (form_of e) (constant_of (pos 0)) ≡ form_of e
plus_nothing e =
    is_form (λ i. coefficient (form_of e) i +ℤ coefficient (constant_of (pos 0)) i) (constant_in e +ℤ pos 0) e
    (λ i h. rw (coefficient_of_form e i h, number_at_places (λ j. pos 0) i h) (add_zero (coefficient_in e i)))
    (add_zero (constant_in e))

favoured_form : (e : Expression) → FunctionFits e → favoured (ends_from (λ high low. high -ℤ low) (Some (pos 0)) (Some (pos 0))) (Some (form_of e)) ≡ Some (form_of e)
unfolding fits
favoured_form e fit = ap fitting (plus_nothing e) ∙ fitting_form e fit

-- the expression of which a claim says that it is at least 0
abbrev pub claimed : Bool → Expression → Expression → Expression
claimed true l r = strictly_less l r
claimed false l r = less l r

pub exact_constraint : (strict : Bool) (l r : Expression) → FunctionFits (less l r) → FunctionFits (claimed strict l r) → constraint (record { greater = exactly (form_of l); smaller = exactly (form_of r); is_strict = strict }) ≡ Some (form_of (claimed strict l r))
exact_constraint true l r fit strict_fit =
    let difference : fitting (difference_of (form_of l) (form_of r)) ≡ Some (form_of (less l r)) = ap fitting (form_of_difference l r) ∙ fitting_form (less l r) fit in
    ap (λ f. favoured (ends_from (λ high low. high -ℤ low) (Some (pos 0)) (Some (pos 0))) (less_one true f)) difference
    ∙ ap (λ f. favoured (ends_from (λ high low. high -ℤ low) (Some (pos 0)) (Some (pos 0))) f) (ap fitting (form_of_strict_difference l r) ∙ fitting_form (strictly_less l r) strict_fit)
    ∙ favoured_form (strictly_less l r) strict_fit
exact_constraint false l r fit strict_fit =
    let difference : fitting (difference_of (form_of l) (form_of r)) ≡ Some (form_of (less l r)) = ap fitting (form_of_difference l r) ∙ fitting_form (less l r) fit in
    ap (λ f. favoured (ends_from (λ high low. high -ℤ low) (Some (pos 0)) (Some (pos 0))) (less_one false f)) difference
    ∙ favoured_form (less l r) fit

value_of_claimed : (strict : Bool) (l r : Expression) (s : List ℤ) → value_at (form_of (claimed strict l r)) s ≡ value_at (form_of l) s -ℤ value_at (form_of r) s -ℤ off strict
value_of_claimed true l r s =
    ap (λ t. value_at t s) (sym (form_of_strict_difference l r))
    ∙ value_difference (form_of (less l r)) (constant_of (pos 1)) s
    ∙ ap (λ t. t -ℤ value_at (constant_of (pos 1)) s) (ap (λ t. value_at t s) (sym (form_of_difference l r)) ∙ value_difference (form_of l) (form_of r) s)
    ∙ ap (λ t. value_at (form_of l) s -ℤ value_at (form_of r) s -ℤ t) (value_constant (pos 1) s)
value_of_claimed false l r s =
    ap (λ t. value_at t s) (sym (form_of_difference l r))
    ∙ value_difference (form_of l) (form_of r) s
    ∙ less_nothing (value_at (form_of l) s -ℤ value_at (form_of r) s)

module _ (s : List ℤ) where
  -- a met claim holds of the values
  met_claim : (strict : Bool) (l r : Expression) (rows : Option (List Row)) → FunctionFits (less l r) → FunctionFits (claimed strict l r) → MeetsKept s (with_constraint (constraint (record { greater = exactly (form_of l); smaller = exactly (form_of r); is_strict = strict })) rows) → (pos 0 ≤ℤ (value_at (form_of l) s -ℤ value_at (form_of r) s -ℤ off strict)) × MeetsKept s rows
  met_claim strict l r rows fit strict_fit met =
      let a : Affine = form_of (claimed strict l r) in
      let known : MeetsKept s (with_constraint (Some a) rows) = subst (λ f. MeetsKept s (with_constraint f rows)) (exact_constraint strict l r fit strict_fit) met in
      let both = met_before s (row_kind_of a) rows known in
      (subst (λ z. pos 0 ≤ℤ z) (value_of_claimed strict l r s) ((row_meets a s).0 both.0), both.1)

  single_holds : (strict : Bool) (l r : Expression) → FunctionFits (less l r) → FunctionFits (claimed strict l r) → MeetsOne s (all_rows_of ((record { greater = exactly (form_of l); smaller = exactly (form_of r); is_strict = strict } ∷ []) ∷ [])) → pos 0 ≤ℤ (value_at (form_of l) s -ℤ value_at (form_of r) s -ℤ off strict)
  single_holds strict l r fit strict_fit met =
      let claim : Claim = record { greater = exactly (form_of l); smaller = exactly (form_of r); is_strict = strict } in
      ⊎_elim (λ kept. (met_claim strict l r (Some []) fit strict_fit kept).0) (λ none. absurd none) (met_kept s (rows_of (claim ∷ [])) [] met)

  -- a comparison of exact forms whose conjunction is met holds of the values
  claims_exact : (op : Op2) (l r : Expression) → ComparisonFits l r → MeetsOne s (all_rows_of (claims op (exactly (form_of l)) (exactly (form_of r)))) → Compares op (value_at (form_of l) s) (value_at (form_of r) s) true
  claims_exact Less l r fit met = let from = single_holds true r l fit.opposite fit.strict_opposite met in holds (omega (arith, ints))
  claims_exact LessEqual l r fit met = let from = single_holds false r l fit.opposite fit.opposite met in holds (omega (arith, ints))
  claims_exact Greater l r fit met = let from = single_holds true l r fit.difference fit.strict_difference met in holds (omega (arith, ints))
  claims_exact GreaterEqual l r fit met = let from = single_holds false l r fit.difference fit.difference met in holds (omega (arith, ints))
  claims_exact Equal l r fit met =
      let x : Linear = exactly (form_of l) in
      let y : Linear = exactly (form_of r) in
      ⊎_elim
      (λ kept.
      let first = met_claim false l r (rows_of (at_least y x ∷ [])) fit.difference fit.difference kept in
      let second = met_claim false r l (Some []) fit.opposite fit.opposite first.1 in
      holds (omega (arith, ints, first.0, second.0)))
      (λ none. absurd none) (met_kept s (rows_of (at_least x y ∷ at_least y x ∷ [])) [] met)
  claims_exact NotEqual l r fit met =
      let x : Linear = exactly (form_of l) in
      let y : Linear = exactly (form_of r) in
      ⊎_elim
      (λ kept. let first = met_claim true l r (Some []) fit.difference fit.strict_difference kept in holds (λ same. omega (arith, ints, first.0)))
      (λ later. let second = single_holds true r l fit.opposite fit.strict_opposite later in holds (λ same. omega (arith, ints)))
      (met_kept s (rows_of (above x y ∷ [])) (all_rows_of ((above y x ∷ []) ∷ [])) met)
  claims_exact _ l r fit met = absurd met

  -- ---- comparisons

  compared_exact : (op : Op2) (bounds : Bounds) (l r : Expression) → NamesBelow 16 l → NamesBelow 16 r → IsAffine l → IsAffine r → ComparisonFits l r → (t : Bool) → MeetsOne s (all_rows_of (claims (comparison_for t op) (linear_of bounds l) (linear_of bounds r))) → MayTest (pair op l r) s t
  compared_exact op bounds l r left right affine also fit t met =
      let exact = subst (λ y. MeetsOne s (all_rows_of (claims (comparison_for t op) (exactly (form_of l)) y))) (linear_exact bounds r also fit.right)
      (subst (λ x. MeetsOne s (all_rows_of (claims (comparison_for t op) x (linear_of bounds r)))) (linear_exact bounds l affine fit.left) met) in
      inl (
        value_at (form_of l) s,
        value_at (form_of r) s,
        may_have_value s l left affine,
        may_have_value s r right also,
        outcome_holds op (value_at (form_of l) s) (value_at (form_of r) s) t (claims_exact (comparison_for t op) l r fit exact),
      )

  less_decided : (a b : ℤ) → (t : Bool) × (IsTrue t ↔ (a <ℤ b))
  less_decided a b = by_lt_z a b (λ less. (true, holds less)) (λ from. (false, fails (λ less. omega (arith, ints))))

  at_most_decided : (a b : ℤ) → (t : Bool) × (IsTrue t ↔ (a ≤ℤ b))
  at_most_decided a b = by_lt_z b a (λ less. (false, fails (λ from. omega (arith, ints)))) (λ from. (true, holds from))

  equal_decided : (a b : ℤ) → (t : Bool) × (IsTrue t ↔ (a ≡ b))
  equal_decided a b = by_lt_z a b
      (λ less. (false, fails (λ same. omega (arith, ints))))
      (λ from. by_lt_z b a (λ less. (false, fails (λ same. omega (arith, ints)))) (λ to. (true, holds (omega (arith, ints)))))

  apart_decided : (a b : ℤ) → (t : Bool) × (IsTrue t ↔ (a ≢ b))
  apart_decided a b = by_lt_z a b
      (λ less. (true, holds (λ same. omega (arith, ints))))
      (λ from. by_lt_z b a (λ less. (true, holds (λ same. omega (arith, ints)))) (λ to. (false, fails (λ apart. apart (omega (arith, ints))))))

  -- ---- tests

  compared_somehow : (vars : ℕ) → vars ≤ 16 → (op : Op2) (l r : Expression) → IsNumber vars l → IsNumber vars r → IsAffine l → IsAffine r → ((a b : ℤ) → (t : Bool) × Compares op a b t) → (t : Bool) × MayTest (pair op l r) s t
  compared_somehow vars few op l r left right affine also decided =
      let found = decided (value_at (form_of l) s) (value_at (form_of r) s) in
      (found.0, inl (value_at (form_of l) s, value_at (form_of r) s, may_have_value s l (number_names vars 16 few l left) affine, may_have_value s r (number_names vars 16 few r right) also, found.1))

  -- an affine test has an outcome
  pub some_outcome : (vars : ℕ) → vars ≤ 16 → (c : Expression) → IsTest vars c → IsAffineTest c → (t : Bool) × MayTest c s t
  some_outcome vars few (number z) sort affine = absurd sort
  some_outcome vars few (variable x) sort affine = absurd sort
  some_outcome vars few free sort affine = absurd affine
  some_outcome vars few (range lo hi) sort affine = absurd sort
  some_outcome vars few (truth b) sort affine = (b, refl)
  some_outcome vars few (negative e) sort affine = absurd sort
  some_outcome vars few (divided division e b) sort affine = absurd sort
  some_outcome vars few (negation c) sort affine = let inner = some_outcome vars few c sort affine in (not inner.0, (inner.0, inner.1, refl))
  some_outcome vars few (pair And l r) sort affine =
      let left = some_outcome vars few l sort.0 affine.0 in
      let right = some_outcome vars few r sort.1 affine.1 in
      (left.0 && right.0, inr (left.0, right.0, left.1, right.1, refl))
  some_outcome vars few (pair Or l r) sort affine =
      let left = some_outcome vars few l sort.0 affine.0 in
      let right = some_outcome vars few r sort.1 affine.1 in
      (left.0 || right.0, inr (left.0, right.0, left.1, right.1, refl))
  some_outcome vars few (pair Less l r) sort affine = compared_somehow vars few Less l r sort.0 sort.1 affine.0 affine.1 (λ a b. less_decided a b)
  some_outcome vars few (pair LessEqual l r) sort affine = compared_somehow vars few LessEqual l r sort.0 sort.1 affine.0 affine.1 (λ a b. at_most_decided a b)
  some_outcome vars few (pair Greater l r) sort affine = compared_somehow vars few Greater l r sort.0 sort.1 affine.0 affine.1 (λ a b. less_decided b a)
  some_outcome vars few (pair GreaterEqual l r) sort affine = compared_somehow vars few GreaterEqual l r sort.0 sort.1 affine.0 affine.1 (λ a b. at_most_decided b a)
  some_outcome vars few (pair Equal l r) sort affine = compared_somehow vars few Equal l r sort.0 sort.1 affine.0 affine.1 equal_decided
  some_outcome vars few (pair NotEqual l r) sort affine = compared_somehow vars few NotEqual l r sort.0 sort.1 affine.0 affine.1 apart_decided
  some_outcome vars few (pair _ l r) sort affine = absurd sort

  and_false : (a : Bool) → false ≡ (a && false)
  and_false true = refl
  and_false false = refl

  or_true : (a : Bool) → true ≡ (a || true)
  or_true true = refl
  or_true false = refl

  twice : (t : Bool) → t ≡ not (not t)
  twice true = refl
  twice false = refl

  comparison : (vars : ℕ) → vars ≤ 16 → (op : Op2) (bounds : Bounds) (l r : Expression) → IsNumber vars l × IsNumber vars r → IsAffine l × IsAffine r → ComparisonFits l r → (t : Bool) → MeetsOne s (all_rows_of (claims (comparison_for t op) (linear_of bounds l) (linear_of bounds r))) → MayTest (pair op l r) s t
  comparison vars few op bounds l r sort affine fit t met =
      compared_exact op bounds l r (number_names vars 16 few l sort.0) (number_names vars 16 few r sort.1) affine.0 affine.1 fit t met

  pub spread_exact : (vars : ℕ) → vars ≤ 16 → (bounds : Bounds) (c : Expression) → IsTest vars c → IsAffineTest c → TestFits c → (t : Bool) → MeetsOne s (spread_of bounds c t) → MayTest c s t
  spread_exact vars few bounds (number z) sort affine fit t met = absurd sort
  spread_exact vars few bounds (variable x) sort affine fit t met = absurd sort
  spread_exact vars few bounds free sort affine fit t met = absurd affine
  spread_exact vars few bounds (range lo hi) sort affine fit t met = absurd sort
  spread_exact vars few bounds (truth true) sort affine fit true met = refl
  spread_exact vars few bounds (truth true) sort affine fit false met = absurd met
  spread_exact vars few bounds (truth false) sort affine fit true met = absurd met
  spread_exact vars few bounds (truth false) sort affine fit false met = refl
  spread_exact vars few bounds (negative e) sort affine fit t met = absurd sort
  spread_exact vars few bounds (divided division e b) sort affine fit t met = absurd sort
  spread_exact vars few bounds (negation c) sort affine fit t met = (not t, spread_exact vars few bounds c sort affine fit (not t) met, twice t)
  spread_exact vars few bounds (pair And l r) sort affine fit true met =
      let both = met_pairs s (spread_of bounds l true) (spread_of bounds r true) met in
      inr (true, true, spread_exact vars few bounds l sort.0 affine.0 fit.0 true both.0, spread_exact vars few bounds r sort.1 affine.1 fit.1 true both.1, refl)
  spread_exact vars few bounds (pair And l r) sort affine fit false met = ⊎_elim
      (λ left. let other = some_outcome vars few r sort.1 affine.1 in inr (false, other.0, spread_exact vars few bounds l sort.0 affine.0 fit.0 false left, other.1, refl))
      (λ right. let other = some_outcome vars few l sort.0 affine.0 in inr (other.0, false, other.1, spread_exact vars few bounds r sort.1 affine.1 fit.1 false right, and_false other.0))
      (met_either s (spread_of bounds l false) (spread_of bounds r false) met)
  spread_exact vars few bounds (pair Or l r) sort affine fit true met = ⊎_elim
      (λ left. let other = some_outcome vars few r sort.1 affine.1 in inr (true, other.0, spread_exact vars few bounds l sort.0 affine.0 fit.0 true left, other.1, refl))
      (λ right. let other = some_outcome vars few l sort.0 affine.0 in inr (other.0, true, other.1, spread_exact vars few bounds r sort.1 affine.1 fit.1 true right, or_true other.0))
      (met_either s (spread_of bounds l true) (spread_of bounds r true) met)
  spread_exact vars few bounds (pair Or l r) sort affine fit false met =
      let both = met_pairs s (spread_of bounds l false) (spread_of bounds r false) met in
      inr (false, false, spread_exact vars few bounds l sort.0 affine.0 fit.0 false both.0, spread_exact vars few bounds r sort.1 affine.1 fit.1 false both.1, refl)
  spread_exact vars few bounds (pair Less l r) sort affine fit t met = comparison vars few Less bounds l r sort affine fit t met
  spread_exact vars few bounds (pair LessEqual l r) sort affine fit t met = comparison vars few LessEqual bounds l r sort affine fit t met
  spread_exact vars few bounds (pair Greater l r) sort affine fit t met = comparison vars few Greater bounds l r sort affine fit t met
  spread_exact vars few bounds (pair GreaterEqual l r) sort affine fit t met = comparison vars few GreaterEqual bounds l r sort affine fit t met
  spread_exact vars few bounds (pair Equal l r) sort affine fit t met = comparison vars few Equal bounds l r sort affine fit t met
  spread_exact vars few bounds (pair NotEqual l r) sort affine fit t met = comparison vars few NotEqual bounds l r sort affine fit t met
  spread_exact vars few bounds (pair _ l r) sort affine fit t met = absurd sort
