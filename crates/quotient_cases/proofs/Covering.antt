-- Each value of an expression has one of its cases, and with it a conjunction of rows.
use Rattle.std.proofs.Common.{◌≡◌, ℕ, ◌<◌, zero, suc, nat_lt, ℤ, pos, negsuc, neg_ℤ, ◌+ℤ◌, ◌-ℤ◌, ◌*ℤ◌, ◌≤ℤ◌, ◌<ℤ◌, int_lt, int_eq, unsigned_abs, ◌⊎◌, inl, inr, Bool, true, false, cond, Option, None, Some, List, [], ◌∷◌, ◌++◌, length, map, refl, sym, subst, ap, ◌∙◌, arith}
use Rattle.std.specs.Bool.{⊤}
use Rattle.std.specs.List.{flat_map}
use Rattle.std.proofs.lemmas.Int.{ints, by_lt_z}
use Rattle.std.proofs.lemmas.Bool.Decides.{Decides-int_eq}
use Rattle.step_meaning.specs.declared.expression.Op2.{Op2}
use Rattle.step_meaning.specs.declared.expression.Op2.TheVariants.{Add, Sub, Mul}
use Rattle.step_meaning.specs.Syntax.{Expression, number, variable, free, range, truth, negative, negation, pair, divided, quotient, remainder}
use Rattle.step_meaning.specs.Naming.{NamesBelow}
use Rattle.step_meaning.specs.Outcome.{Makes, May, Truncates}
use Rattle.step_meaning.proofs.Quotients.{left_between, only}
use Rattle.linear_cons.specs.Bounds.{Covers, IsFrom, IsUpTo, LiesIn}
use Rattle.linear_cons.specs.Numbers.{number_at}
use Rattle.linear_cons.specs.declared.affine.Affine.{Affine}
use Rattle.linear_cons.specs.declared.bounds.Bounds.{Bounds}
use Rattle.linear_cons.specs.declared.bounds.Linear.{Linear}
use Rattle.linear_cons.specs.declared.row.Row.{Row}
use Rattle.linear_cons.specs.Ends.{exact_end, fits}
use Rattle.linear_cons.specs.Functions.{constant_of, difference_of, multiple_of, sum_of, value_at, variable_at}
use Rattle.linear_cons.specs.Rows.{row_kind_of}
use Rattle.linear_cons.proofs.EndLaws.{from_end, up_to_end}
use Rattle.linear_cons.proofs.Forms.{value_constant, value_difference, value_multiple, value_sum, value_variable}
use Rattle.linear_cons.proofs.Ring.{add_mul, mul_assoc, mul_commutes, mul_le, mul_lt, mul_neg, mul_nonnegative, mul_one, mul_sub, mul_turned, mul_zero, neg_mul, zero_mul}
use Rattle.linear_forms.specs.Linearising.{is_constant, is_exact as is_exact_form, is_number, is_same, linear_of, numbers_fit}
use Rattle.linear_forms.specs.Meeting.{MeetsEach, MeetsOne}
use Rattle.linear_forms.specs.Spreading.{fitting, with_constraint}
use Rattle.linear_forms.proofs.AffineForms.{times_minus_one}
use Rattle.linear_forms.proofs.Covering.{both_true, exact_value, linear_covers}
use Rattle.linear_forms.proofs.Known.{is_same_decides}
use Rattle.linear_forms.proofs.MeetingLaws.{MeetsKept, meets_before, meets_both, row_meets}
use Rattle.quotient_cases.specs.declared.case.Case.{Case}
use Rattle.quotient_cases.specs.CaseEnds.{added, lessened, raised, scaled}
use Rattle.quotient_cases.specs.Cases.{cases_of, divides, exact_remainders, few, is_exact, multiple, natural_quotient, negative_quotient, number_end, of_form, paired, plainly, products, quotients, remainders, rows_at, rows_kept, same_ends, sum, sums, timed, value_rows, where_kept, where_large, where_low, where_natural, where_negative, where_small, with_factor, with_sign}

-- ---- lists of which some item has a property

abbrev SomeOf : {A : Type 0} → (A → Type 0) → List A → Type 0
SomeOf P [] = ⊥
SomeOf P (x ∷ xs) = P x ⊎ SomeOf P xs

module _ {A : Type 0} (P : A → Type 0) where
  some_left : (xs ys : List A) → SomeOf P xs → SomeOf P (xs ++ ys)
  some_left [] ys some = absurd some
  some_left (x ∷ xs) ys (inl is) = inl is
  some_left (x ∷ xs) ys (inr some) = inr (some_left xs ys some)

  some_right : (xs ys : List A) → SomeOf P ys → SomeOf P (xs ++ ys)
  some_right [] ys some = some
  some_right (x ∷ xs) ys some = inr (some_right xs ys some)

module _ {A B : Type 0} (P : A → Type 0) (Q : B → Type 0) where
  some_map : (f : A → B) → ((x : A) → P x → Q (f x)) → (xs : List A) → SomeOf P xs → SomeOf Q (map f xs)
  some_map f each [] some = absurd some
  some_map f each (x ∷ xs) (inl is) = inl (each x is)
  some_map f each (x ∷ xs) (inr some) = inr (some_map f each xs some)

  some_flat : (f : A → List B) → ((x : A) → P x → SomeOf Q (f x)) → (xs : List A) → SomeOf P xs → SomeOf Q (flat_map f xs)
  some_flat f each [] some = absurd some
  some_flat f each (x ∷ xs) (inl is) = some_left Q (f x) (flat_map f xs) (each x is)
  some_flat f each (x ∷ xs) (inr some) = some_right Q (f x) (flat_map f xs) (some_flat f each xs some)

-- ---- products

times_positive : (m n : ℤ) → pos 0 <ℤ m → pos 0 <ℤ n → pos 0 <ℤ (m *ℤ n)
times_positive m n one two = rw (← mul_zero m) (mul_lt m (pos 0) n one two)

multiple_times : (v k m : ℤ) → v *ℤ m *ℤ k ≡ v *ℤ k *ℤ m
multiple_times v k m = mul_assoc v m k ∙ ap (λ t. v *ℤ t) (mul_commutes m k) ∙ sym (mul_assoc v k m)

sum_times : (v w m n : ℤ) → v *ℤ m *ℤ n +ℤ w *ℤ n *ℤ m ≡ (v +ℤ w) *ℤ (m *ℤ n)
sum_times v w m n =
    let first = mul_assoc v m n in
    let second : w *ℤ n *ℤ m ≡ w *ℤ (m *ℤ n) = mul_assoc w n m ∙ ap (λ t. w *ℤ t) (mul_commutes n m) in
    let whole = add_mul v w (m *ℤ n) in
    omega (arith, ints)

-- the quotient by a positive number, times a number: it is what is divided less what is left
quotient_times : (a b q m : ℤ) → q *ℤ (m *ℤ b) ≡ a *ℤ m -ℤ m *ℤ (a -ℤ q *ℤ b)
quotient_times a b q m =
    let whole = mul_sub m a (q *ℤ b) in
    let one = mul_commutes m a in
    let inner : m *ℤ (q *ℤ b) ≡ q *ℤ (m *ℤ b) = sym (mul_assoc m q b) ∙ ap (λ t. t *ℤ b) (mul_commutes m q) ∙ mul_assoc q m b in
    omega (arith, ints)

-- ---- quotients by the divisor's size

-- a number smaller in size than the divisor stays
stays : (a b q : ℤ) → Truncates a b q → unsigned_abs a < unsigned_abs b → a -ℤ q *ℤ b ≡ a
stays a b q is small =
    let none = zero_mul b in
    let same : a -ℤ pos 0 *ℤ b ≡ a = omega (arith, ints) in
    let by_0 : Truncates a b (pos 0) = record {
      small = subst (λ r. unsigned_abs r < unsigned_abs b) (sym same) small;
      sign = ((λ h. subst (λ r. pos 0 ≤ℤ r) (sym same) h), (λ h. subst (λ r. r ≤ℤ pos 0) (sym same) h));
    } in
    let one : q ≡ pos 0 = only a b q (pos 0) is by_0 in
    ap (λ t. a -ℤ t *ℤ b) one ∙ same

-- the negative of a quotient is that by the negative divisor
turned : (a q : ℤ) (k : ℕ) → a -ℤ q *ℤ negsuc k ≡ a -ℤ (q *ℤ negsuc 0) *ℤ pos (suc k)
turned a q k =
    let one = times_minus_one q in
    let other : neg_ℤ q *ℤ pos (suc k) ≡ neg_ℤ (q *ℤ pos (suc k)) = neg_mul q (pos (suc k)) in
    let own : q *ℤ negsuc k ≡ neg_ℤ (q *ℤ pos (suc k)) = mul_neg q (pos (suc k)) in
    let both : (q *ℤ negsuc 0) *ℤ pos (suc k) ≡ neg_ℤ q *ℤ pos (suc k) = ap (λ t. t *ℤ pos (suc k)) one in
    omega (arith, ints)

by_size : (a q : ℤ) (k : ℕ) → Truncates a (negsuc k) q → Truncates a (pos (suc k)) (q *ℤ negsuc 0)
by_size a q k is = record {
  small = subst (λ r. unsigned_abs r < suc k) (turned a q k) is.small;
  sign = ((λ h. subst (λ r. pos 0 ≤ℤ r) (turned a q k) (is.sign.0 h)), (λ h. subst (λ r. r ≤ℤ pos 0) (turned a q k) (is.sign.1 h)));
}

twice_turned : (q : ℤ) → q *ℤ negsuc 0 *ℤ negsuc 0 ≡ q
twice_turned q = let one = times_minus_one q in let other = times_minus_one (q *ℤ negsuc 0) in omega (arith, ints)

module _ (s : List ℤ) where
  -- ---- ends

  -- the value is at least that of the function, or at most
  abbrev IsLow : Option Affine → ℤ → Type 0
  IsLow None z = ⊤
  IsLow (Some a) z = value_at a s ≤ℤ z

  abbrev IsHigh : Option Affine → ℤ → Type 0
  IsHigh None z = ⊤
  IsHigh (Some a) z = z ≤ℤ value_at a s

  low_fitting : (a : Affine) (z : ℤ) → value_at a s ≤ℤ z → IsLow (fitting a) z
  low_fitting a z low = either (numbers_fit a) where
    either : (t : Bool) → IsLow (cond t (Some a) None) z
    either true = low
    either false = tt

  high_fitting : (a : Affine) (z : ℤ) → z ≤ℤ value_at a s → IsHigh (fitting a) z
  high_fitting a z high = either (numbers_fit a) where
    either : (t : Bool) → IsHigh (cond t (Some a) None) z
    either true = high
    either false = tt

  multiple_value : (a : Affine) (k : ℤ) → value_at (multiple_of a k) s ≡ k *ℤ value_at a s
  multiple_value a k = value_multiple a k s

  low_scaled : (k : ℤ) (end : Option Affine) (z : ℤ) → pos 0 ≤ℤ k → IsLow end z → IsLow (scaled k end) (z *ℤ k)
  low_scaled k None z from low = tt
  low_scaled k (Some a) z from low =
      let value = multiple_value a k in
      let order = mul_le k (value_at a s) z from low in
      let same = mul_commutes k z in
      low_fitting (multiple_of a k) (z *ℤ k) (omega (arith, ints))

  high_scaled : (k : ℤ) (end : Option Affine) (z : ℤ) → pos 0 ≤ℤ k → IsHigh end z → IsHigh (scaled k end) (z *ℤ k)
  high_scaled k None z from high = tt
  high_scaled k (Some a) z from high =
      let value = multiple_value a k in
      let order = mul_le k z (value_at a s) from high in
      let same = mul_commutes k z in
      high_fitting (multiple_of a k) (z *ℤ k) (omega (arith, ints))

  low_turned : (k : ℤ) (end : Option Affine) (z : ℤ) → k <ℤ pos 0 → IsHigh end z → IsLow (scaled k end) (z *ℤ k)
  low_turned k None z below high = tt
  low_turned k (Some a) z below high =
      let value = multiple_value a k in
      let order = mul_turned k z (value_at a s) below high in
      let same = mul_commutes k z in
      low_fitting (multiple_of a k) (z *ℤ k) (omega (arith, ints))

  high_turned : (k : ℤ) (end : Option Affine) (z : ℤ) → k <ℤ pos 0 → IsLow end z → IsHigh (scaled k end) (z *ℤ k)
  high_turned k None z below low = tt
  high_turned k (Some a) z below low =
      let value = multiple_value a k in
      let order = mul_turned k (value_at a s) z below low in
      let same = mul_commutes k z in
      high_fitting (multiple_of a k) (z *ℤ k) (omega (arith, ints))

  low_added : (one other : Option Affine) (z w : ℤ) → IsLow one z → IsLow other w → IsLow (added one other) (z +ℤ w)
  low_added None other z w left right = tt
  low_added (Some a) None z w left right = tt
  low_added (Some a) (Some b) z w left right = let value = value_sum a b s in low_fitting (sum_of a b) (z +ℤ w) (omega (arith, ints))

  high_added : (one other : Option Affine) (z w : ℤ) → IsHigh one z → IsHigh other w → IsHigh (added one other) (z +ℤ w)
  high_added None other z w left right = tt
  high_added (Some a) None z w left right = tt
  high_added (Some a) (Some b) z w left right = let value = value_sum a b s in high_fitting (sum_of a b) (z +ℤ w) (omega (arith, ints))

  high_lessened : (one other : Option Affine) (z w : ℤ) → IsHigh one z → IsLow other w → IsHigh (lessened one other) (z -ℤ w)
  high_lessened None other z w left right = tt
  high_lessened (Some a) None z w left right = tt
  high_lessened (Some a) (Some b) z w left right =
      let value = value_difference a b s in high_fitting (difference_of a b) (z -ℤ w) (omega (arith, ints))

  low_raised : (n : Option ℤ) (end : Option Affine) (z d : ℤ) → IsFrom n d → IsLow end z → IsLow (raised n end) (z +ℤ d)
  low_raised None end z d from low = tt
  low_raised (Some c) None z d from low = tt
  low_raised (Some c) (Some a) z d from low =
      let value = value_sum a (constant_of c) s in
      let constant = value_constant c s in
      low_fitting (sum_of a (constant_of c)) (z +ℤ d) (omega (arith, ints))

  high_raised : (n : Option ℤ) (end : Option Affine) (z d : ℤ) → IsUpTo n d → IsHigh end z → IsHigh (raised n end) (z +ℤ d)
  high_raised None end z d to high = tt
  high_raised (Some c) None z d to high = tt
  high_raised (Some c) (Some a) z d to high =
      let value = value_sum a (constant_of c) s in
      let constant = value_constant c s in
      high_fitting (sum_of a (constant_of c)) (z +ℤ d) (omega (arith, ints))

  high_same : (end : Option Affine) (z w : ℤ) → z ≡ w → IsHigh end z → IsHigh end w
  high_same end z w is high = subst (IsHigh end) is high

  low_same : (end : Option Affine) (z w : ℤ) → z ≡ w → IsLow end z → IsLow end w
  low_same end z w is low = subst (IsLow end) is low

  -- a function that is at least a natural is at least 0
  high_less : (end : Option Affine) (z w : ℤ) → w ≤ℤ z → IsHigh end z → IsHigh end w
  high_less None z w less high = tt
  high_less (Some a) z w less high = omega (arith, ints)

  low_more : (end : Option Affine) (z w : ℤ) → z ≤ℤ w → IsLow end z → IsLow end w
  low_more None z w less low = tt
  low_more (Some a) z w less low = omega (arith, ints)

  guard_met : (guard : Option Affine) (rows : Option (List Row)) (z : ℤ) → pos 0 ≤ℤ z → IsHigh guard z → MeetsKept s rows
      → MeetsKept s (with_constraint guard rows)
  guard_met None rows z from high met = met
  guard_met (Some a) rows z from high met = meets_before s (row_kind_of a) rows ((row_meets a s).1 (omega (arith, ints))) met

  -- ---- cases

  -- the store meets the rows of the case, and so many times the value lies between its functions
  record Gives (v : ℤ) (case : Case) : Type 0 where
    some : pos 0 <ℤ case.times
    met : MeetsEach s case.rows
    low : IsLow case.least (v *ℤ case.times)
    high : IsHigh case.most (v *ℤ case.times)

  gives_plainly : (v : ℤ) (rows : List Row) (least most : Option Affine) → MeetsEach s rows → IsLow least v → IsHigh most v
      → Gives v (plainly rows least most)
  gives_plainly v rows least most met low high = record {
    some = omega (arith, ints);
    met = met;
    low = low_same least v (v *ℤ pos 1) (sym (mul_one v)) low;
    high = high_same most v (v *ℤ pos 1) (sym (mul_one v)) high;
  }

  gives_form : (v : ℤ) (rows : List Row) (form : Linear) → MeetsEach s rows → Covers form s v → Gives v (of_form form rows)
  gives_form v rows form met covers =
      let own : value_at form.affine s ≤ℤ value_at form.affine s = omega (arith, ints) in
      let whole : value_at form.affine s +ℤ (v -ℤ value_at form.affine s) ≡ v = omega (arith, ints) in
      gives_plainly v rows _ _ met
      (low_same (raised form.lo (Some form.affine)) _ v whole (low_raised form.lo (Some form.affine) (value_at form.affine s) (v -ℤ value_at form.affine s) covers.lower own))
      (high_same (raised form.hi (Some form.affine)) _ v whole (high_raised form.hi (Some form.affine) (value_at form.affine s) (v -ℤ value_at form.affine s) covers.upper own))

  gives_timed : (v : ℤ) (rows : List Row) (m n : ℤ) (least most : Option Affine) → pos 0 <ℤ m → pos 0 <ℤ n → MeetsEach s rows
      → IsLow least (v *ℤ (m *ℤ n)) → IsHigh most (v *ℤ (m *ℤ n)) → Gives v (timed rows m n least most)
  gives_timed v rows m n least most one two met low high = by_fit (fits (m *ℤ n)) where
    by_fit : (t : Bool) → Gives v (cond t (record { rows = rows; times = m *ℤ n; least = least; most = most }) (plainly rows None None))
    by_fit true = record { some = times_positive m n one two; met = met; low = low; high = high }
    by_fit false = gives_plainly v rows None None met tt tt

  kept_some : {A : Type 0} (P : A → Type 0) (rows : Option (List Row)) (made : List Row → A) → MeetsKept s rows
      → ((list : List Row) → MeetsEach s list → P (made list)) → SomeOf P (where_kept rows made)
  kept_some P None made met each = absurd met
  kept_some P (Some rows) made met each = inl (each rows met)

  gives_factor : (k v : ℤ) (rows : List Row) (case : Case) → MeetsEach s rows → Gives v case → Gives (v *ℤ k) (with_factor rows case k)
  gives_factor k v rows case met gives = by_sign (int_lt k (pos 0)) refl where
    same : v *ℤ case.times *ℤ k ≡ v *ℤ k *ℤ case.times
    same = multiple_times v k case.times

    by_sign : (t : Bool) → int_lt k (pos 0) ≡ t → Gives (v *ℤ k)
        (cond t (record { rows = rows; times = case.times; least = scaled k case.most; most = scaled k case.least })
        (record { rows = rows; times = case.times; least = scaled k case.least; most = scaled k case.most }))
    by_sign true is = record {
      some = gives.some;
      met = met;
      low = low_same (scaled k case.most) _ _ same (low_turned k case.most (v *ℤ case.times) (omega (arith, ints)) gives.high);
      high = high_same (scaled k case.least) _ _ same (high_turned k case.least (v *ℤ case.times) (omega (arith, ints)) gives.low);
    }
    by_sign false is = record {
      some = gives.some;
      met = met;
      low = low_same (scaled k case.least) _ _ same (low_scaled k case.least (v *ℤ case.times) (omega (arith, ints)) gives.low);
      high = high_same (scaled k case.most) _ _ same (high_scaled k case.most (v *ℤ case.times) (omega (arith, ints)) gives.high);
    }

  gives_sum : (v w : ℤ) (x y : Case) → Gives v x → Gives w y → Gives (v +ℤ w) (sum x y)
  gives_sum v w x y left right =
      let some_x = left.some in
      let some_y = right.some in
      let same = sum_times v w x.times y.times in
      gives_timed (v +ℤ w) (x.rows ++ y.rows) x.times y.times _ _ left.some right.some (meets_both s x.rows y.rows left.met right.met)
      (low_same (added (scaled y.times x.least) (scaled x.times y.least)) _ _ same
      (low_added (scaled y.times x.least) (scaled x.times y.least) _ _
      (low_scaled y.times x.least (v *ℤ x.times) (omega (arith, ints)) left.low) (low_scaled x.times y.least (w *ℤ y.times) (omega (arith, ints)) right.low)))
      (high_same (added (scaled y.times x.most) (scaled x.times y.most)) _ _ same
      (high_added (scaled y.times x.most) (scaled x.times y.most) _ _
      (high_scaled y.times x.most (v *ℤ x.times) (omega (arith, ints)) left.high) (high_scaled x.times y.most (w *ℤ y.times) (omega (arith, ints)) right.high)))

  gives_sums : (v w : ℤ) (xs ys : List Case) → SomeOf (Gives v) xs → SomeOf (Gives w) ys → SomeOf (Gives (v +ℤ w)) (sums xs ys)
  gives_sums v w xs ys left right =
      some_flat (Gives v) (Gives (v +ℤ w)) (λ (x : Case). map (sum x) ys)
      (λ x gives. some_map (Gives w) (Gives (v +ℤ w)) (sum x) (λ y other. gives_sum v w x y gives other) ys right) xs left

  -- ---- quotients

  module _ (a q : ℤ) (k : ℕ) (is : Truncates a (pos (suc k)) q) (case : Case) (gives : Gives a case) (rows : List Row) (met : MeetsEach s rows) where
    abbrev m : ℤ
    m = case.times

    abbrev rest : ℤ
    rest = a -ℤ q *ℤ pos (suc k)

    times_left : a *ℤ m -ℤ m *ℤ rest ≡ q *ℤ (m *ℤ pos (suc k))
    times_left = sym (quotient_times a (pos (suc k)) q m)

    natural_gives : pos 0 ≤ℤ a → Gives q (timed rows m (pos (suc k)) (raised (exact_end (m *ℤ (pos 1 -ℤ pos (suc k)))) case.least) case.most)
    natural_gives from =
        let some = gives.some in
        let sign : pos 0 ≤ℤ rest = is.sign.0 from in
        let between = left_between a (pos (suc k)) q is in
        let above : pos 0 ≤ℤ (m *ℤ rest) = mul_nonnegative m rest (omega (arith, ints)) sign in
        let below : (m *ℤ (pos 1 -ℤ pos (suc k))) ≤ℤ (m *ℤ (pos 0 -ℤ rest)) = mul_le m _ _ (omega (arith, ints)) (omega (arith, ints)) in
        let opposite : m *ℤ (pos 0 -ℤ rest) ≡ m *ℤ pos 0 -ℤ m *ℤ rest = mul_sub m (pos 0) rest in
        let nothing = mul_zero m in
        let whole = times_left in
        gives_timed q rows m (pos (suc k)) _ _ gives.some (omega (arith, ints)) met
        (low_same (raised (exact_end (m *ℤ (pos 1 -ℤ pos (suc k)))) case.least) (a *ℤ m +ℤ m *ℤ (pos 0 -ℤ rest)) _ (omega (arith, ints))
        (low_raised (exact_end (m *ℤ (pos 1 -ℤ pos (suc k)))) case.least (a *ℤ m) (m *ℤ (pos 0 -ℤ rest)) (from_end _ _ below) gives.low))
        (high_less case.most (a *ℤ m) _ (omega (arith, ints)) gives.high)

    negative_gives : a ≤ℤ pos 0 → Gives q (timed rows m (pos (suc k)) case.least (raised (exact_end (m *ℤ (pos (suc k) -ℤ pos 1))) case.most))
    negative_gives to =
        let some = gives.some in
        let sign : rest ≤ℤ pos 0 = is.sign.1 to in
        let between = left_between a (pos (suc k)) q is in
        let opposite : m *ℤ (pos 0 -ℤ rest) ≡ m *ℤ pos 0 -ℤ m *ℤ rest = mul_sub m (pos 0) rest in
        let nothing = mul_zero m in
        let above : pos 0 ≤ℤ (m *ℤ (pos 0 -ℤ rest)) = mul_nonnegative m (pos 0 -ℤ rest) (omega (arith, ints)) (omega (arith, ints)) in
        let below : (m *ℤ (pos 0 -ℤ rest)) ≤ℤ (m *ℤ (pos (suc k) -ℤ pos 1)) = mul_le m _ _ (omega (arith, ints)) (omega (arith, ints)) in
        let whole = times_left in
        gives_timed q rows m (pos (suc k)) _ _ gives.some (omega (arith, ints)) met
        (low_more case.least (a *ℤ m) _ (omega (arith, ints)) gives.low)
        (high_same (raised (exact_end (m *ℤ (pos (suc k) -ℤ pos 1))) case.most) (a *ℤ m +ℤ m *ℤ (pos 0 -ℤ rest)) _ (omega (arith, ints))
        (high_raised (exact_end (m *ℤ (pos (suc k) -ℤ pos 1))) case.most (a *ℤ m) (m *ℤ (pos 0 -ℤ rest)) (up_to_end _ _ below) gives.high))

  -- the negative of a value
  gives_turned : (q : ℤ) (case : Case) → Gives (q *ℤ negsuc 0) case
      → Gives q (record { rows = case.rows; times = case.times; least = scaled (negsuc 0) case.most; most = scaled (negsuc 0) case.least })
  gives_turned q case gives =
      subst (λ t. Gives t (record { rows = case.rows; times = case.times; least = scaled (negsuc 0) case.most; most = scaled (negsuc 0) case.least })) (twice_turned q)
      (gives_factor (negsuc 0) (q *ℤ negsuc 0) case.rows case gives.met gives)

  -- what is divided is not 0
  none_by_0 : (a q : ℤ) → Truncates a (pos 0) q → ⊥
  none_by_0 a q is = let small = is.small in omega arith

  positive_sign : (b : ℕ) (case : Case) (P : Case → Type 0) → P case → P (with_sign (pos b) case)
  positive_sign b case P has = by_sign (int_lt (pos b) (pos 0)) refl where
    by_sign : (t : Bool) → int_lt (pos b) (pos 0) ≡ t
        → P (cond t (record { rows = case.rows; times = case.times; least = scaled (negsuc 0) case.most; most = scaled (negsuc 0) case.least }) case)
    by_sign true is = absurd (omega (arith, ints))
    by_sign false is = has

  gives_natural : (a b q : ℤ) → Truncates a b q → (case : Case) → Gives a case → pos 0 ≤ℤ a → (rows : List Row) → MeetsEach s rows
      → Gives q (natural_quotient case b rows)
  gives_natural a (pos zero) q is case gives from rows met = absurd (none_by_0 a q is)
  gives_natural a (pos (suc k)) q is case gives from rows met = positive_sign (suc k) _ (Gives q) (natural_gives a q k is case gives rows met from)
  gives_natural a (negsuc k) q is case gives from rows met =
      gives_turned q _ (natural_gives a (q *ℤ negsuc 0) k (by_size a q k is) case gives rows met from)

  gives_negative : (a b q : ℤ) → Truncates a b q → (case : Case) → Gives a case → a ≤ℤ pos 0 → (rows : List Row) → MeetsEach s rows
      → Gives q (negative_quotient case b rows)
  gives_negative a (pos zero) q is case gives to rows met = absurd (none_by_0 a q is)
  gives_negative a (pos (suc k)) q is case gives to rows met = positive_sign (suc k) _ (Gives q) (negative_gives a q k is case gives rows met to)
  gives_negative a (negsuc k) q is case gives to rows met =
      gives_turned q _ (negative_gives a (q *ℤ negsuc 0) k (by_size a q k is) case gives rows met to)

  natural_met : (a : ℤ) (case : Case) → Gives a case → pos 0 ≤ℤ a → MeetsKept s (where_natural case)
  natural_met a case gives from =
      let some = gives.some in
      guard_met case.most (Some case.rows) (a *ℤ case.times) (mul_nonnegative a case.times from (omega (arith, ints))) gives.high gives.met

  negative_met : (a : ℤ) (case : Case) → Gives a case → a <ℤ pos 0 → MeetsKept s (where_negative case)
  negative_met a case gives below =
      let some = gives.some in
      let order : (case.times *ℤ a) ≤ℤ (case.times *ℤ negsuc 0) = mul_le case.times a (negsuc 0) (omega (arith, ints)) (omega (arith, ints)) in
      let same = mul_commutes case.times a in
      let own = times_minus_one case.times in
      let turn = times_minus_one (a *ℤ case.times) in
      let equal : (case.times *ℤ negsuc 0) ≤ℤ (case.times *ℤ negsuc 0) = omega (arith, ints) in
      guard_met (raised (exact_end (case.times *ℤ negsuc 0)) (scaled (negsuc 0) case.least)) (Some case.rows)
      (a *ℤ case.times *ℤ negsuc 0 +ℤ case.times *ℤ negsuc 0) (omega (arith, ints))
      (high_raised (exact_end (case.times *ℤ negsuc 0)) (scaled (negsuc 0) case.least) (a *ℤ case.times *ℤ negsuc 0) (case.times *ℤ negsuc 0)
      (up_to_end _ _ equal) (high_turned (negsuc 0) case.least (a *ℤ case.times) (omega (arith, ints)) gives.low))
      gives.met

  gives_quotients : (a b q : ℤ) → Truncates a b q → (case : Case) → Gives a case → SomeOf (Gives q) (quotients b case)
  gives_quotients a b q is case gives =
      by_lt_z a (pos 0)
      (λ below. some_right (Gives q) (where_kept (where_natural case) (natural_quotient case b)) (where_kept (where_negative case) (negative_quotient case b))
      (kept_some (Gives q) (where_negative case) (negative_quotient case b) (negative_met a case gives below)
      (λ rows met. gives_negative a b q is case gives (omega (arith, ints)) rows met)))
      (λ from. some_left (Gives q) (where_kept (where_natural case) (natural_quotient case b)) (where_kept (where_negative case) (negative_quotient case b))
      (kept_some (Gives q) (where_natural case) (natural_quotient case b) (natural_met a case gives from)
      (λ rows met. gives_natural a b q is case gives from rows met)))

  -- ---- remainders

  low_number : (z v : ℤ) → z ≤ℤ v → IsLow (number_end z) v
  low_number z v less = let value = value_constant z s in omega (arith, ints)

  high_number : (z v : ℤ) → v ≤ℤ z → IsHigh (number_end z) v
  high_number z v less = let value = value_constant z s in omega (arith, ints)

  module _ (a b q : ℤ) (is : Truncates a b q) (case : Case) (met : MeetsEach s case.rows) (low : IsLow case.least a) (high : IsHigh case.most a)
      (above : IsHigh case.least a) (below : IsLow case.most a) where
    abbrev size : ℤ
    size = pos (unsigned_abs b)

    abbrev left : ℤ
    left = a -ℤ q *ℤ b

    minus : a *ℤ negsuc 0 ≡ neg_ℤ a
    minus = times_minus_one a

    high_minus : IsHigh (scaled (negsuc 0) case.most) (a *ℤ negsuc 0)
    high_minus = high_turned (negsuc 0) case.most a (omega (arith, ints)) below

    large_met : size ≤ℤ a → MeetsKept s (where_large b case)
    large_met from =
        guard_met _ (Some case.rows) (a +ℤ (pos 0 -ℤ size)) (omega (arith, ints))
        (high_raised (Some (pos 0 -ℤ size)) case.least a (pos 0 -ℤ size) (omega (arith, ints)) above) met

    low_met : a ≤ℤ (pos 0 -ℤ size) → MeetsKept s (where_low b case)
    low_met to =
        let turn = minus in
        guard_met _ (Some case.rows) (a *ℤ negsuc 0 +ℤ (pos 0 -ℤ size)) (omega (arith, ints))
        (high_raised (Some (pos 0 -ℤ size)) (scaled (negsuc 0) case.most) (a *ℤ negsuc 0) (pos 0 -ℤ size) (omega (arith, ints)) high_minus) met

    small_met : a <ℤ size → (pos 0 -ℤ size) <ℤ a → MeetsKept s (where_small b case)
    small_met less more =
        let turn = minus in
        guard_met _ _ (a *ℤ negsuc 0 +ℤ (size -ℤ pos 1)) (omega (arith, ints))
        (high_raised (Some (size -ℤ pos 1)) (scaled (negsuc 0) case.most) (a *ℤ negsuc 0) (size -ℤ pos 1) (omega (arith, ints)) high_minus)
        (guard_met _ (Some case.rows) (a +ℤ (size -ℤ pos 1)) (omega (arith, ints))
        (high_raised (Some (size -ℤ pos 1)) case.least a (size -ℤ pos 1) (omega (arith, ints)) above) met)

    gives_large : size ≤ℤ a → (rows : List Row) → MeetsEach s rows → Gives left (plainly rows (number_end (pos 0)) (number_end (size -ℤ pos 1)))
    gives_large from rows holds =
        let sign : pos 0 ≤ℤ left = is.sign.0 (omega (arith, ints)) in
        let between = left_between a b q is in
        gives_plainly left rows _ _ holds (low_number (pos 0) left sign) (high_number (size -ℤ pos 1) left between.1)

    gives_low : a ≤ℤ (pos 0 -ℤ size) → (rows : List Row) → MeetsEach s rows → Gives left (plainly rows (number_end (pos 1 -ℤ size)) (number_end (pos 0)))
    gives_low to rows holds =
        let sign : left ≤ℤ pos 0 = is.sign.1 (omega (arith, ints)) in
        let between = left_between a b q is in
        gives_plainly left rows _ _ holds (low_number (pos 1 -ℤ size) left between.0) (high_number (pos 0) left sign)

    gives_small : a <ℤ size → (pos 0 -ℤ size) <ℤ a → (rows : List Row) → MeetsEach s rows → Gives left (plainly rows case.least case.most)
    gives_small less more rows holds =
        let same : left ≡ a = stays a b q is (omega (arith, ints)) in
        gives_plainly left rows case.least case.most holds (low_same case.least a left (sym same) low) (high_same case.most a left (sym same) high)

    abbrev large : List Case
    large = where_kept (where_large b case) (λ rows. plainly rows (number_end (pos 0)) (number_end (size -ℤ pos 1)))

    abbrev small : List Case
    small = where_kept (where_small b case) (λ rows. plainly rows case.least case.most)

    abbrev lower : List Case
    lower = where_kept (where_low b case) (λ rows. plainly rows (number_end (pos 1 -ℤ size)) (number_end (pos 0)))

    gives_exact : SomeOf (Gives left) (exact_remainders b case)
    gives_exact =
        by_lt_z a size
        (λ less. some_right (Gives left) large (small ++ lower)
        (by_lt_z (pos 0 -ℤ size) a
        (λ more. some_left (Gives left) small lower (kept_some (Gives left) (where_small b case) _ (small_met less more) (gives_small less more)))
        (λ to. some_right (Gives left) small lower (kept_some (Gives left) (where_low b case) _ (low_met to) (gives_low to)))))
        (λ from. some_left (Gives left) large (small ++ lower) (kept_some (Gives left) (where_large b case) _ (large_met from) (gives_large from)))

  -- both ends of an exact case are its value
  exact_low : (m : ℤ) (least most : Option Affine) (z : ℤ) → same_ends m least most ≡ true → IsLow least z → IsLow most z
  exact_low m (Some a) (Some b) z exact low =
      let same : a ≡ b = (is_same_decides a b).0 (both_true (int_eq m (pos 1)) (is_same a b) exact).1 in
      subst (λ t. value_at t s ≤ℤ z) same low
  exact_low m (Some a) None z exact low = tt
  exact_low m None b z exact low = absurd (cc)

  exact_high : (m : ℤ) (least most : Option Affine) (z : ℤ) → same_ends m least most ≡ true → IsHigh most z → IsHigh least z
  exact_high m (Some a) (Some b) z exact high =
      let same : a ≡ b = (is_same_decides a b).0 (both_true (int_eq m (pos 1)) (is_same a b) exact).1 in
      subst (λ t. z ≤ℤ value_at t s) (sym same) high
  exact_high m (Some a) None z exact high = absurd (cc)
  exact_high m None b z exact high = tt

  exact_once : (m : ℤ) (least most : Option Affine) → same_ends m least most ≡ true → m ≡ pos 1
  exact_once m (Some a) (Some b) exact = (Decides-int_eq m (pos 1)).0 (both_true (int_eq m (pos 1)) (is_same a b) exact).0
  exact_once m (Some a) None exact = absurd (cc)
  exact_once m None b exact = absurd (cc)

  gives_remainders : (a b q : ℤ) → Truncates a b q → (whole : Linear) → Covers whole s (a -ℤ q *ℤ b) → (case : Case) → Gives a case
      → SomeOf (Gives (a -ℤ q *ℤ b)) (remainders b whole case)
  gives_remainders a b q is whole known case gives = by_kind (is_exact case) refl where
    by_kind : (t : Bool) → is_exact case ≡ t → SomeOf (Gives (a -ℤ q *ℤ b)) (cond t (exact_remainders b case) (of_form whole case.rows ∷ []))
    by_kind true exact =
        let once : a *ℤ case.times ≡ a = ap (λ t. a *ℤ t) (exact_once case.times case.least case.most exact) ∙ mul_one a in
        let low : IsLow case.least a = low_same case.least _ a once gives.low in
        let high : IsHigh case.most a = high_same case.most _ a once gives.high in
        gives_exact a b q is case gives.met low high (exact_high case.times case.least case.most a exact high) (exact_low case.times case.least case.most a exact low)
    by_kind false exact = inl (gives_form (a -ℤ q *ℤ b) case.rows whole gives.met known)

  -- ---- expressions

  gives_few : (v : ℤ) (whole : Linear) (cases : List Case) → Covers whole s v → SomeOf (Gives v) cases → SomeOf (Gives v) (few whole cases)
  gives_few v whole cases covers some = by_length (nat_lt 16 (length cases)) where
    by_length : (t : Bool) → SomeOf (Gives v) (cond t (of_form whole [] ∷ []) cases)
    by_length true = inl (gives_form v [] whole tt covers)
    by_length false = some

  gives_multiples : (k v w : ℤ) → v *ℤ k ≡ w → (cases : List Case) → SomeOf (Gives v) cases → SomeOf (Gives w) (map (multiple k) cases)
  gives_multiples k v w is cases some =
      some_map (Gives v) (Gives w) (multiple k) (λ case gives. subst (λ t. Gives t (multiple k case)) is (gives_factor k v case.rows case gives.met gives)) cases some

  number_value : (x : Linear) (v : ℤ) → is_number x ≡ true → Covers x s v → v ≡ x.affine.constant
  number_value x v is covers =
      let parts = both_true (is_exact_form x) (is_constant x.affine) is in
      let same : x.affine ≡ constant_of x.affine.constant = (is_same_decides x.affine (constant_of x.affine.constant)).0 parts.1 in
      exact_value x s v parts.0 covers ∙ ap (λ a. value_at a s) same ∙ value_constant x.affine.constant s

  gives_products : (whole x y : Linear) (a b v : ℤ) → v ≡ a *ℤ b → Covers x s a → Covers y s b → Covers whole s v → (xs ys : List Case)
      → SomeOf (Gives a) xs → SomeOf (Gives b) ys → SomeOf (Gives v) (products whole x y xs ys)
  gives_products whole x y a b v is first second covers xs ys left right = by_left (is_number x) refl where
    by_right : (t : Bool) → is_number y ≡ t → SomeOf (Gives v) (cond t (map (multiple y.affine.constant) xs) (of_form whole [] ∷ []))
    by_right true exact =
        gives_multiples y.affine.constant a v (ap (λ t. a *ℤ t) (sym (number_value y b exact second)) ∙ sym is) xs left
    by_right false exact = inl (gives_form v [] whole tt covers)

    by_left : (t : Bool) → is_number x ≡ t
        → SomeOf (Gives v) (cond t (map (multiple x.affine.constant) ys) (cond (is_number y) (map (multiple y.affine.constant) xs) (of_form whole [] ∷ [])))
    by_left true exact =
        gives_multiples x.affine.constant b v (ap (λ t. b *ℤ t) (sym (number_value x a exact first)) ∙ mul_commutes b a ∙ sym is) ys right
    by_left false exact = by_right (is_number y) refl

  gives_paired : (op : Op2) (whole x y : Linear) (a b v : ℤ) → Makes op a b v → Covers x s a → Covers y s b → Covers whole s v → (xs ys : List Case)
      → SomeOf (Gives a) xs → SomeOf (Gives b) ys → SomeOf (Gives v) (paired op whole x y xs ys)
  gives_paired Add whole x y a b v makes first second covers xs ys one two =
      subst (λ t. SomeOf (Gives t) (sums xs ys)) (sym makes) (gives_sums a b xs ys one two)
  gives_paired Sub whole x y a b v makes first second covers xs ys one two =
      let same : a +ℤ neg_ℤ b ≡ v = sym makes in
      subst (λ t. SomeOf (Gives t) (sums xs (map (multiple (negsuc 0)) ys))) same
      (gives_sums a (neg_ℤ b) xs (map (multiple (negsuc 0)) ys) one (gives_multiples (negsuc 0) b (neg_ℤ b) (times_minus_one b) ys two))
  gives_paired Mul whole x y a b v makes first second covers xs ys one two =
      gives_products whole x y a b v makes first second covers xs ys one two
  gives_paired _ whole x y a b v makes first second covers xs ys one two = inl (gives_form v [] whole tt covers)

  module _ (bounds : Bounds) (inside : LiesIn bounds s) where
    gives_whole : (e : Expression) → NamesBelow 16 e → (v : ℤ) → May e s v → SomeOf (Gives v) (of_form (linear_of bounds e) [] ∷ [])
    gives_whole e named v may = inl (gives_form v [] (linear_of bounds e) tt (linear_covers bounds s inside e named v may))

    gives_one : (e : Expression) → NamesBelow 16 e → (v : ℤ) → May e s v → SomeOf (Gives v) (cases_of bounds e)
    gives_one (number z) named v may = gives_whole (number z) named v may
    gives_one (variable x) named v may = gives_whole (variable x) named v may
    gives_one (range lo hi) named v may = gives_whole (range lo hi) named v may
    gives_one free named v may = gives_whole free named v may
    gives_one (truth b) named v may = absurd may
    gives_one (negation c) named v may = absurd may
    gives_one (negative e) named v may =
        gives_few v (linear_of bounds (negative e)) (map (multiple (negsuc 0)) (cases_of bounds e)) (linear_covers bounds s inside (negative e) named v may)
        (gives_multiples (negsuc 0) may.0 v (times_minus_one may.0 ∙ sym may.2) (cases_of bounds e) (gives_one e named may.0 may.1))
    gives_one (divided quotient e b) named v may =
        gives_few v (linear_of bounds (divided quotient e b)) (flat_map (quotients b) (cases_of bounds e))
        (linear_covers bounds s inside (divided quotient e b) named v may)
        (subst (λ t. SomeOf (Gives t) (flat_map (quotients b) (cases_of bounds e))) (sym may.4)
        (some_flat (Gives may.0) (Gives may.1) (quotients b) (λ case gives. gives_quotients may.0 b may.1 may.3 case gives) (cases_of bounds e)
        (gives_one e named may.0 may.2)))
    gives_one (divided remainder e b) named v may =
        let whole : Linear = linear_of bounds (divided remainder e b) in
        let covers : Covers whole s v = linear_covers bounds s inside (divided remainder e b) named v may in
        gives_few v whole (flat_map (remainders b whole) (cases_of bounds e)) covers
        (subst (λ t. SomeOf (Gives t) (flat_map (remainders b whole) (cases_of bounds e))) (sym may.4)
        (some_flat (Gives may.0) (Gives (may.0 -ℤ may.1 *ℤ b)) (remainders b whole)
        (λ case gives. gives_remainders may.0 b may.1 may.3 whole (subst (Covers whole s) may.4 covers) case gives) (cases_of bounds e)
        (gives_one e named may.0 may.2)))
    gives_one (pair op l r) named v may =
        let whole : Linear = linear_of bounds (pair op l r) in
        let covers : Covers whole s v = linear_covers bounds s inside (pair op l r) named v may in
        gives_few v whole (paired op whole (linear_of bounds l) (linear_of bounds r) (cases_of bounds l) (cases_of bounds r)) covers
        (gives_paired op whole (linear_of bounds l) (linear_of bounds r) may.0 may.1 v may.4
        (linear_covers bounds s inside l named.0 may.0 may.2) (linear_covers bounds s inside r named.1 may.1 may.3) covers
        (cases_of bounds l) (cases_of bounds r) (gives_one l named.0 may.0 may.2) (gives_one r named.1 may.1 may.3))

  -- ---- rows

  rows_met : (v : ℤ) (place : ℕ) → place < 16 → number_at s place ≡ v → (case : Case) → Gives v case → MeetsKept s (rows_at place case)
  rows_met v place low is case gives =
      let some = gives.some in
      let value : value_at (variable_at place) s ≡ v = value_variable place s low ∙ is in
      let own : pos 0 ≤ℤ (v *ℤ case.times -ℤ v *ℤ case.times) = omega (arith, ints) in
      guard_met (lessened (scaled case.times (Some (variable_at place))) case.least) _ (v *ℤ case.times -ℤ v *ℤ case.times) own
      (high_lessened (scaled case.times (Some (variable_at place))) case.least (v *ℤ case.times) (v *ℤ case.times)
      (high_scaled case.times (Some (variable_at place)) v (omega (arith, ints)) (omega (arith, ints))) gives.low)
      (guard_met (lessened case.most (scaled case.times (Some (variable_at place)))) (Some case.rows) (v *ℤ case.times -ℤ v *ℤ case.times) own
      (high_lessened case.most (scaled case.times (Some (variable_at place))) (v *ℤ case.times) (v *ℤ case.times) gives.high
      (low_scaled case.times (Some (variable_at place)) v (omega (arith, ints)) (omega (arith, ints))))
      gives.met)

  one_met : (lists : List (List Row)) → SomeOf (MeetsEach s) lists → MeetsOne s lists
  one_met [] some = absurd some
  one_met (rows ∷ more) (inl met) = inl met
  one_met (rows ∷ more) (inr some) = inr (one_met more some)

-- a value that an expression may have, at a place, meets with the store each row of one of the conjunctions
pub values_cover : (bounds : Bounds) (s : List ℤ) → LiesIn bounds s → (e : Expression) → NamesBelow 16 e → (place : ℕ) → place < 16 → (v : ℤ)
    → May e s v → number_at s place ≡ v → MeetsOne s (value_rows bounds place e)
values_cover bounds s inside e named place low v may is = by_kind (divides e) where
  by_kind : (t : Bool) → MeetsOne s (cond t (flat_map (rows_kept place) (cases_of bounds e)) ([] ∷ []))
  by_kind true =
      one_met s (flat_map (rows_kept place) (cases_of bounds e))
      (some_flat (Gives s v) (MeetsEach s) (rows_kept place)
      (λ case gives. kept_some s (MeetsEach s) (rows_at place case) (λ rows. rows) (rows_met s v place low is case gives) (λ rows met. met))
      (cases_of bounds e) (gives_one s bounds inside e named v may))
  by_kind false = inl tt
