-- A store that meets the range rows keeps each outcome within 32 bits.
use Rattle.std.proofs.Common.{◌≡◌, ℤ, pos, negsuc, int_eq, ◌⊎◌, inl, inr, refl, ◌+ℤ◌, ◌-ℤ◌, ◌≤ℤ◌, Bool, true, false, cond, Option, None, Some, List, [], ◌∷◌, ◌++◌, All, neg_ℤ, sym, subst, ap, ◌∙◌, arith}
use Rattle.std.proofs.lemmas.Bool.Decides.{Decides-int_eq}
use Rattle.std.proofs.lemmas.Int.{ints}
use Rattle.linear_cons.specs.declared.affine.Affine.{Affine}
use Rattle.linear_cons.specs.declared.bounds.Bounds.{Bounds}
use Rattle.linear_cons.specs.declared.bounds.Linear.{Linear}
use Rattle.linear_cons.specs.declared.row.RowKind.{RowKind}
use Rattle.linear_cons.specs.declared.row.RowKind.TheVariants.{Always, Never, Row as Kept}
use Rattle.linear_cons.specs.Bounds.{Covers, IsFrom, IsUpTo, LiesIn}
use Rattle.linear_cons.specs.Functions.{complement_of, constant_of, difference_of, sum_of, value_at}
use Rattle.linear_cons.specs.Rows.{MeetsKind, row_kind_of}
use Rattle.linear_cons.proofs.Forms.{value_constant, value_difference, value_sum}
use Rattle.linear_forms.specs.Linearising.{linear_of, numbers_fit}
use Rattle.linear_forms.proofs.Covering.{linear_covers}
use Rattle.linear_forms.proofs.MeetingLaws.{row_meets}
use Rattle.step_meaning.specs.declared.expression.Op2.TheVariants.{Add, Sub, Mul, Less, LessEqual, Greater, GreaterEqual, Equal, NotEqual, And, Or}
use Rattle.step_meaning.specs.Syntax.{Division, quotient, remainder, Expression, number, variable, free, range, divided, truth, negative, negation, pair}
use Rattle.step_meaning.specs.Naming.{NamesBelow}
use Rattle.step_meaning.specs.Outcome.{Store}
use Rattle.tree_support.proofs.Lists.{all_first, all_left, all_right}
use Rattle.int_fit.specs.Fitting.{FitsInt, IsLiteral, IsSmallNumber, IsSmallTest, OutcomesFit}
use Rattle.int_fit.specs.Narrowing.{least_int, greatest_int}
use Rattle.fit_check.proofs.Divisions.{negated, quotient_fits, rest_fits}
use Rattle.fit_check.specs.Ranges.{StaysIn, is_literal, kind_of, numbers_in, numbers_in_test, left_of, raised, with_complement}

-- ---- what a row that is met says

module _ (store : Store) where
  -- something holds of the function's value, and of the end; there are such
  abbrev OfValue : (ℤ → Type 0) → Option Affine → Type 0
  OfValue Q None = ⊥
  OfValue Q (Some a) = Q (value_at a store)

  abbrev OfEnd : (ℤ → Type 0) → Option ℤ → Type 0
  OfEnd Q None = ⊥
  OfEnd Q (Some n) = Q n

  of_whole : (b : Bool) (a : Affine) (Q : ℤ → Type 0) → OfValue Q (cond b (Some a) None) → Q (value_at a store)
  of_whole true a Q h = h
  of_whole false a Q h = absurd h

  whole_kind : (b : Bool) (kind : RowKind) → MeetsKind store (cond b kind Never) → MeetsKind store kind
  whole_kind true kind h = h
  whole_kind false kind h = absurd h

  met_whole : (kind : RowKind) → MeetsKind store (with_complement kind) → MeetsKind store kind
  met_whole Always met = met
  met_whole Never met = met
  met_whole (Kept row) met = whole_kind (numbers_fit (complement_of row.affine)) (Kept row) met

  met_function : (a : Option Affine) → MeetsKind store (kind_of a) → OfValue (λ z. pos 0 ≤ℤ z) a
  met_function None met = met
  met_function (Some a) met = (row_meets a store).0 (met_whole (row_kind_of a) met)

  of_raised : (f : Option Affine) (e : Option ℤ) (Q : ℤ → Type 0) → OfValue Q (raised f e) → OfValue (λ z. OfEnd (λ n. Q (z +ℤ n)) e) f
  of_raised None e Q h = h
  of_raised (Some a) None Q h = h
  of_raised (Some a) (Some n) Q h =
      let sum = value_sum a (constant_of n) store ∙ ap (λ c. value_at a store +ℤ c) (value_constant n store) in
      subst Q sum (of_whole (numbers_fit (sum_of a (constant_of n))) (sum_of a (constant_of n)) Q h)

  of_left : (z : ℤ) (f : Option Affine) (Q : ℤ → Type 0) → OfValue Q (left_of z f) → OfValue (λ v. Q (z -ℤ v)) f
  of_left z None Q h = h
  of_left z (Some a) Q h =
      let less = value_difference (constant_of z) a store ∙ ap (λ c. c -ℤ value_at a store) (value_constant z store) in
      subst Q less (of_whole (numbers_fit (difference_of (constant_of z) a)) (difference_of (constant_of z) a) Q h)

  -- ---- so the numbers that a form covers are of 32 bits

  above_least : (z v : ℤ) (lo : Option ℤ) → OfEnd (λ n. pos 0 ≤ℤ (z +ℤ n +ℤ pos 2147483648)) lo → IsFrom lo (v -ℤ z) → least_int ≤ℤ v
  above_least z v None h from = absurd h
  above_least z v (Some n) h from = omega (arith, ints)

  below_greatest : (z v : ℤ) (hi : Option ℤ) → OfEnd (λ n. pos 0 ≤ℤ (pos 2147483647 -ℤ (z +ℤ n))) hi → IsUpTo hi (v -ℤ z) → v ≤ℤ greatest_int
  below_greatest z v None h up = absurd h
  below_greatest z v (Some n) h up = omega (arith, ints)

  between_ends : (v : ℤ) → least_int ≤ℤ v → v ≤ℤ greatest_int → FitsInt v
  between_ends (pos n) low high = record { sfits = omega (arith, ints) }
  between_ends (negsuc n) low high = record { sfits = omega (arith, ints) }

  pub stays_fits : (x : Linear) → StaysIn store x → (v : ℤ) → Covers x store v → FitsInt v
  stays_fits x stays v covers =
      let raised_lo = raised (Some x.affine) x.lo in
      let raised_hi = raised (Some x.affine) x.hi in
      let low = of_raised (Some x.affine) x.lo (λ z. pos 0 ≤ℤ (z +ℤ pos 2147483648))
      (of_raised raised_lo (Some (pos 2147483648)) (λ z. pos 0 ≤ℤ z) (met_function (raised raised_lo (Some (pos 2147483648))) stays.0)) in
      let high = of_raised (Some x.affine) x.hi (λ z. pos 0 ≤ℤ (pos 2147483647 -ℤ z))
      (of_left (pos 2147483647) raised_hi (λ z. pos 0 ≤ℤ z) (met_function (left_of (pos 2147483647) raised_hi) stays.1)) in
      between_ends v (above_least (value_at x.affine store) v x.lo low covers.lower) (below_greatest (value_at x.affine store) v x.hi high covers.upper)

-- ---- and so is each outcome of an expression

own_outcomes : (e : Expression) (store : Store) → IsSmallNumber e store → OutcomesFit e store
own_outcomes (number z) store small = small
own_outcomes (variable x) store small = small
own_outcomes free store small = small
own_outcomes (range lo hi) store small = small
own_outcomes (divided division e b) store small = small.2
own_outcomes (truth b) store small = λ v may. absurd may
own_outcomes (negative e) store small = small.1
own_outcomes (negation c) store small = λ v may. absurd may
own_outcomes (pair op l r) store small = small.2

module _ (bounds : Bounds) (store : Store) (inside : LiesIn bounds store) where
  abbrev Stays : Expression → Type 0
  Stays e = StaysIn store (linear_of bounds e)

  outcomes_fit : (e : Expression) → NamesBelow 16 e → Stays e → OutcomesFit e store
  outcomes_fit e named stays v may = stays_fits store (linear_of bounds e) stays v (linear_covers bounds store inside e named v may)

  last_of : (es : List Expression) (e : Expression) → All Stays (es ++ e ∷ []) → Stays e
  last_of es e all = all_first Stays e [] (all_right Stays es (e ∷ []) all)

  -- a literal below a sign is asked for with the sign alone
  below_sign : (e : Expression) (t : Bool) → is_literal e ≡ t → (All Stays (numbers_in e) → IsSmallNumber e store)
      → All Stays (cond t [] (numbers_in e)) → IsLiteral e ⊎ IsSmallNumber e store
  below_sign (number z) true is small stays = inl (z, refl)
  below_sign e false is small stays = inr (small stays)
  below_sign (variable x) true is small stays = absurd (cc)
  below_sign free true is small stays = absurd (cc)
  below_sign (range lo hi) true is small stays = absurd (cc)
  below_sign (divided division e b) true is small stays = absurd (cc)
  below_sign (truth b) true is small stays = absurd (cc)
  below_sign (negative e) true is small stays = absurd (cc)
  below_sign (negation c) true is small stays = absurd (cc)
  below_sign (pair op l r) true is small stays = absurd (cc)

  -- a division of what is small, where its negation is too if the divisor is -1
  division_fits : (e : Expression) (b : ℤ) → NamesBelow 16 e → IsSmallNumber e store → (t : Bool) → int_eq b (negsuc 0) ≡ t
      → All Stays (cond t (negative e ∷ []) []) → (division : Division) → OutcomesFit (divided division e b) store
  division_fits e b named small t is stays remainder v may =
      subst FitsInt (sym may.4) (rest_fits may.0 b may.1 may.3 (own_outcomes e store small may.0 may.2))
  division_fits e b named small false is stays quotient v may =
      subst FitsInt (sym may.4) (quotient_fits may.0 b may.1 may.3 (own_outcomes e store small may.0 may.2) is)
  division_fits e b named small true is stays quotient v may =
      let turned : v ≡ neg_ℤ may.0 = may.4 ∙ negated may.0 b may.1 may.3 ((Decides-int_eq b (negsuc 0)).0 is) in
      outcomes_fit (negative e) named (all_first Stays (negative e) [] stays) v (may.0, may.2, turned)

  pub number_small : (e : Expression) → NamesBelow 16 e → All Stays (numbers_in e) → IsSmallNumber e store
  number_small (number z) named stays = outcomes_fit (number z) named (all_first Stays (number z) [] stays)
  number_small (variable x) named stays = outcomes_fit (variable x) named (all_first Stays (variable x) [] stays)
  number_small free named stays = outcomes_fit free named (all_first Stays free [] stays)
  number_small (range lo hi) named stays = outcomes_fit (range lo hi) named (all_first Stays (range lo hi) [] stays)
  number_small (divided division e b) named stays =
      let asked : List Expression = cond (int_eq b (negsuc 0)) (negative e ∷ []) [] in
      let inner = number_small e named (all_left Stays (numbers_in e) asked stays) in
      let each = division_fits e b named inner (int_eq b (negsuc 0)) refl (all_right Stays (numbers_in e) asked stays) in
      (inner, each quotient, each division)
  number_small (truth b) named stays = tt
  number_small (negative e) named stays =
      let inner : List Expression = cond (is_literal e) [] (numbers_in e) in (
        below_sign e (is_literal e) refl (number_small e named) (all_left Stays inner (negative e ∷ []) stays),
        outcomes_fit (negative e) named (last_of inner (negative e) stays),
      )
  number_small (negation c) named stays = tt
  number_small (pair op l r) named stays =
      let more = all_right Stays (numbers_in l) (numbers_in r ++ pair op l r ∷ []) stays in (
        number_small l named.0 (all_left Stays (numbers_in l) (numbers_in r ++ pair op l r ∷ []) stays),
        number_small r named.1 (all_left Stays (numbers_in r) (pair op l r ∷ []) more),
        outcomes_fit (pair op l r) named (last_of (numbers_in r) (pair op l r) more),
      )

  -- of the operands of a pair in a test, as its operator takes them
  both_numbers : (l r : Expression) → NamesBelow 16 l → NamesBelow 16 r → All Stays (numbers_in l ++ numbers_in r)
      → IsSmallNumber l store × IsSmallNumber r store
  both_numbers l r left right stays =
      (number_small l left (all_left Stays (numbers_in l) (numbers_in r) stays), number_small r right (all_right Stays (numbers_in l) (numbers_in r) stays))

  pub test_small : (c : Expression) → NamesBelow 16 c → All Stays (numbers_in_test c) → IsSmallTest c store
  test_small (number z) named stays = tt
  test_small (variable x) named stays = tt
  test_small free named stays = tt
  test_small (range lo hi) named stays = tt
  test_small (divided division e b) named stays = tt
  test_small (truth b) named stays = tt
  test_small (negative e) named stays = tt
  test_small (negation c) named stays = test_small c named stays
  test_small (pair And l r) named stays = (
    test_small l named.0 (all_left Stays (numbers_in_test l) (numbers_in_test r) stays),
    test_small r named.1 (all_right Stays (numbers_in_test l) (numbers_in_test r) stays),
  )
  test_small (pair Or l r) named stays = (
    test_small l named.0 (all_left Stays (numbers_in_test l) (numbers_in_test r) stays),
    test_small r named.1 (all_right Stays (numbers_in_test l) (numbers_in_test r) stays),
  )
  test_small (pair Add l r) named stays = both_numbers l r named.0 named.1 stays
  test_small (pair Sub l r) named stays = both_numbers l r named.0 named.1 stays
  test_small (pair Mul l r) named stays = both_numbers l r named.0 named.1 stays
  test_small (pair Less l r) named stays = both_numbers l r named.0 named.1 stays
  test_small (pair LessEqual l r) named stays = both_numbers l r named.0 named.1 stays
  test_small (pair Greater l r) named stays = both_numbers l r named.0 named.1 stays
  test_small (pair GreaterEqual l r) named stays = both_numbers l r named.0 named.1 stays
  test_small (pair Equal l r) named stays = both_numbers l r named.0 named.1 stays
  test_small (pair NotEqual l r) named stays = both_numbers l r named.0 named.1 stays
