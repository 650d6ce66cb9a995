-- The loops of an elimination: a list that grows by rows that the elimination makes, what it implies
-- so far, and how long it is.
use Rattle.std.proofs.Common.{◌≡◌, inl, inr, ℕ, zero, suc, ◌+◌, ◌*◌, ◌<◌, ◌≤◌, ℤ, pos, negsuc, ◌≤ℤ◌, ◌<ℤ◌, List, [], ◌∷◌, ◌++◌, length, take, get_or, refl, ap, subst, ◌∙◌, arith, All, Contains, ⊎_elim}
use Rattle.std.proofs.lemmas.Int.{ints}
use Rattle.std.proofs.lemmas.List.{take_all, length-take-le}
use Rattle.std.proofs.lemmas.List.Elements.{Contains-append_left, Contains-push, Contains-push_cases}
use Rattle.std.proofs.Math.Nat.{mul-le-mul_right}
use Rattle.linear_cons.specs.declared.row.Row.{Row}
use Rattle.linear_cons.specs.declared.row.RowKind.TheVariants.{Always, Row as Kept}
use Rattle.linear_cons.specs.Functions.{coefficient, form_at}
use Rattle.linear_cons.specs.Rows.{IsRowOf, PointMeets, PointMeetsAll}
use Rattle.linear_solve.specs.Elimination.{AreMany, Grows, ImpliesMixtures, ImpliesPairs, ImpliesRest, IsEliminated, IsLower, IsMade, IsUpper, StandFor, lowers_of, made_of, mixture, one_above, one_below, others_of, uppers_of}
use Rattle.linear_solve.proofs.Lists.{all_more, all_end, all_none, all_of, member_of, take_snoc}
use Rattle.linear_solve.proofs.Mixing.{always_point, kept_point}

-- ---- a list that grows

pub grows_none : (rows : List Row) (place : ℕ) (old : List Row) → Grows rows place old old
grows_none rows place old = record { among = λ row member. inl member; implies = λ num den positive met. met }

-- a point that meets a list with one row more meets the list and the row
front_met : (new next : List Row) (row : Row) (num : List ℤ) (den : ℤ) → next ≡ new ++ row ∷ [] → PointMeetsAll num den next → PointMeetsAll num den new
front_met new next row num den is met =
    let longer : PointMeetsAll num den (new ++ row ∷ []) = rw is at met in
    all_of (λ r. PointMeets num den r) new (λ r member. member_of (λ r. PointMeets num den r) (new ++ row ∷ []) r longer (Contains-append_left new (row ∷ []) r member))

last_met : (new next : List Row) (row : Row) (num : List ℤ) (den : ℤ) → next ≡ new ++ row ∷ [] → PointMeetsAll num den next → PointMeets num den row
last_met new next row num den is met =
    let longer : PointMeetsAll num den (new ++ row ∷ []) = rw is at met in
    member_of (λ r. PointMeets num den r) (new ++ row ∷ []) row longer (Contains-push new row)

pub grows_added : (rows : List Row) (place : ℕ) (old new next : List Row) (row : Row) → Grows rows place old new → next ≡ new ++ row ∷ [] → IsMade rows place row → Grows rows place old next
grows_added rows place old new next row before is made = record {
  among = λ other member. ⊎_elim
      (λ (was : Contains new other). before.among other was)
      (λ (here : row ≡ other). inr (subst (λ t. IsMade rows place t) here made))
      (Contains-push_cases new row other (rw is at member));
  implies = λ num den positive met. before.implies num den positive (front_met new next row num den is met);
}

pub grows_further : (rows : List Row) (place : ℕ) (old new next : List Row) → Grows rows place old new → Grows rows place new next → Grows rows place old next
grows_further rows place old new next before after = record {
  among = λ other member. ⊎_elim
      (λ (was : Contains new other). before.among other was)
      (λ (made : IsMade rows place other). inr made)
      (after.among other member);
  implies = λ num den positive met. before.implies num den positive (after.implies num den positive met);
}

-- rows that stand for the list
pub grows_standing : (rows : List Row) (place : ℕ) (old new : List Row) → StandFor old new → Grows rows place old new
grows_standing rows place old new stand = record { among = λ row member. inl (stand.among row member); implies = stand.implies }

-- a list that the elimination makes has many rows: they are made
pub many_made : (rows : List Row) (place : ℕ) (made : List Row) → Grows rows place [] made → AreMany (Contains made) → AreMany (IsMade rows place)
many_made rows place made grown many = record {
  some = many.some;
  each = λ row member. ⊎_elim
      (λ (none : Contains [] row). absurd (omega (arith, none.1)))
      (λ (is : IsMade rows place row). is)
      (grown.among row (many.each row member));
  distinct = many.distinct;
  many = many.many;
}

-- ---- the rows without the place

pub rest_none : (rows : List Row) (place : ℕ) (new : List Row) → ImpliesRest (take 0 rows) place new
rest_none rows place new num den positive met = all_none (λ (row : Row). coefficient row.affine place ≡ pos 0 → PointMeets num den row) rows

pub rest_added : (rows : List Row) (i place : ℕ) (row : Row) (new next : List Row) → i < length rows → row ≡ get_or rows i row → ImpliesRest (take i rows) place new → next ≡ new ++ row ∷ [] → ImpliesRest (take (i + 1) rows) place next
rest_added rows i place row new next low is before step num den positive met =
    all_more (λ (row : Row). coefficient row.affine place ≡ pos 0 → PointMeets num den row) rows i row low is
    (before num den positive (front_met new next row num den step met))
    (λ none. last_met new next row num den step met)

pub rest_skipped : (rows : List Row) (i place : ℕ) (row : Row) (new : List Row) → i < length rows → row ≡ get_or rows i row → ImpliesRest (take i rows) place new → (coefficient row.affine place ≡ pos 0 → ⊥) → ImpliesRest (take (i + 1) rows) place new
rest_skipped rows i place row new low is before some num den positive met =
    all_more (λ (row : Row). coefficient row.affine place ≡ pos 0 → PointMeets num den row) rows i row low is
    (before num den positive met)
    (λ none. absurd (some none))

pub rest_all : (rows : List Row) (i place : ℕ) (new : List Row) → length rows ≤ i → ImpliesRest (take i rows) place new → ImpliesRest rows place new
rest_all rows i place new end rest num den positive met =
    all_end (λ (row : Row). coefficient row.affine place ≡ pos 0 → PointMeets num den row) rows i end (rest num den positive met)

pub rest_grows : (rows seen : List Row) (place : ℕ) (new next : List Row) → ImpliesRest seen place new → Grows rows place new next → ImpliesRest seen place next
rest_grows rows seen place new next before after num den positive met = before num den positive (after.implies num den positive met)

-- ---- the combinations of one row

pub mixtures_none : (lower : Row) (rows : List Row) (place : ℕ) (new : List Row) → ImpliesMixtures lower (take 0 rows) place new
mixtures_none lower rows place new num den positive met = all_none (λ (upper : Row). IsUpper place upper → pos 0 ≤ℤ form_at (mixture lower upper place) num den) rows

pub mixtures_added : (lower : Row) (rows : List Row) (i place : ℕ) (upper row : Row) (new next : List Row) → i < length rows → upper ≡ get_or rows i upper → ImpliesMixtures lower (take i rows) place new → IsRowOf (mixture lower upper place) (Kept row) → next ≡ new ++ row ∷ [] → ImpliesMixtures lower (take (i + 1) rows) place next
mixtures_added lower rows i place upper row new next low is before normal step num den positive met =
    all_more (λ (upper : Row). IsUpper place upper → pos 0 ≤ℤ form_at (mixture lower upper place) num den) rows i upper low is
    (before num den positive (front_met new next row num den step met))
    (λ above. kept_point (mixture lower upper place) row normal num den positive (last_met new next row num den step met))

pub mixtures_always : (lower : Row) (rows : List Row) (i place : ℕ) (upper : Row) (new : List Row) → i < length rows → upper ≡ get_or rows i upper → ImpliesMixtures lower (take i rows) place new → IsRowOf (mixture lower upper place) Always → ImpliesMixtures lower (take (i + 1) rows) place new
mixtures_always lower rows i place upper new low is before normal num den positive met =
    all_more (λ (upper : Row). IsUpper place upper → pos 0 ≤ℤ form_at (mixture lower upper place) num den) rows i upper low is
    (before num den positive met)
    (λ above. always_point (mixture lower upper place) normal num den positive)

pub mixtures_skipped : (lower : Row) (rows : List Row) (i place : ℕ) (upper : Row) (new : List Row) → i < length rows → upper ≡ get_or rows i upper → ImpliesMixtures lower (take i rows) place new → (IsUpper place upper → ⊥) → ImpliesMixtures lower (take (i + 1) rows) place new
mixtures_skipped lower rows i place upper new low is before excluded num den positive met =
    all_more (λ (upper : Row). IsUpper place upper → pos 0 ≤ℤ form_at (mixture lower upper place) num den) rows i upper low is
    (before num den positive met)
    (λ above. absurd (excluded above))

pub mixtures_all : (lower : Row) (rows : List Row) (i place : ℕ) (new : List Row) → length rows ≤ i → ImpliesMixtures lower (take i rows) place new → ImpliesMixtures lower rows place new
mixtures_all lower rows i place new end mixtures num den positive met =
    all_end (λ (upper : Row). IsUpper place upper → pos 0 ≤ℤ form_at (mixture lower upper place) num den) rows i end (mixtures num den positive met)

pub mixtures_grow : (lower : Row) (rows : List Row) (place : ℕ) (new next : List Row) → ImpliesMixtures lower rows place new → Grows rows place new next → ImpliesMixtures lower rows place next
mixtures_grow lower rows place new next before after num den positive met = before num den positive (after.implies num den positive met)

-- ---- the pairs

pub pairs_none : (rows : List Row) (place : ℕ) (new : List Row) → ImpliesPairs (take 0 rows) rows place new
pairs_none rows place new num den positive met = all_none (λ (lower : Row). IsLower place lower → All (λ (upper : Row). IsUpper place upper → pos 0 ≤ℤ form_at (mixture lower upper place) num den) rows) rows

pub pairs_more : (rows : List Row) (i place : ℕ) (lower : Row) (new next : List Row) → i < length rows → lower ≡ get_or rows i lower → ImpliesPairs (take i rows) rows place new → Grows rows place new next → ImpliesMixtures lower rows place next → ImpliesPairs (take (i + 1) rows) rows place next
pairs_more rows i place lower new next low is before after mixtures num den positive met =
    all_more (λ (lower : Row). IsLower place lower → All (λ (upper : Row). IsUpper place upper → pos 0 ≤ℤ form_at (mixture lower upper place) num den) rows) rows i lower low is
    (before num den positive (after.implies num den positive met))
    (λ below. mixtures num den positive met)

pub pairs_grow : (seen rows : List Row) (place : ℕ) (new next : List Row) → ImpliesPairs seen rows place new → Grows rows place new next → ImpliesPairs seen rows place next
pairs_grow seen rows place new next before after num den positive met = before num den positive (after.implies num den positive met)

pub pairs_skipped : (rows : List Row) (i place : ℕ) (lower : Row) (new : List Row) → i < length rows → lower ≡ get_or rows i lower → ImpliesPairs (take i rows) rows place new → (IsLower place lower → ⊥) → ImpliesPairs (take (i + 1) rows) rows place new
pairs_skipped rows i place lower new low is before excluded num den positive met =
    all_more (λ (lower : Row). IsLower place lower → All (λ (upper : Row). IsUpper place upper → pos 0 ≤ℤ form_at (mixture lower upper place) num den) rows) rows i lower low is
    (before num den positive met)
    (λ below. absurd (excluded below))

pub pairs_all : (rows : List Row) (i place : ℕ) (new : List Row) → length rows ≤ i → ImpliesPairs (take i rows) rows place new → ImpliesPairs rows rows place new
pairs_all rows i place new end pairs num den positive met =
    all_end (λ (lower : Row). IsLower place lower → All (λ (upper : Row). IsUpper place upper → pos 0 ≤ℤ form_at (mixture lower upper place) num den) rows) rows i end (pairs num den positive met)

-- ---- how many rows bound the place from each side

pub above_one : (z : ℤ) → pos 0 <ℤ z → one_above z ≡ 1
above_one (pos zero) more = absurd (omega (arith, ints))
above_one (pos (suc n)) more = refl
above_one (negsuc n) more = absurd (omega (arith, ints))

pub above_none : (z : ℤ) → z ≤ℤ pos 0 → one_above z ≡ 0
above_none (pos zero) less = refl
above_none (pos (suc n)) less = absurd (omega (arith, ints))
above_none (negsuc n) less = refl

pub below_one : (z : ℤ) → z <ℤ pos 0 → one_below z ≡ 1
below_one (pos n) less = absurd (omega (arith, ints))
below_one (negsuc n) less = refl

pub below_none : (z : ℤ) → pos 0 ≤ℤ z → one_below z ≡ 0
below_none (pos n) more = refl
below_none (negsuc n) more = absurd (omega (arith, ints))

lowers_snoc : (place : ℕ) (xs : List Row) (row : Row) → lowers_of place (xs ++ row ∷ []) ≡ lowers_of place xs + one_above (coefficient row.affine place)
lowers_snoc place [] row = omega arith
lowers_snoc place (x ∷ xs) row = let e = lowers_snoc place xs row in omega (arith, e)

uppers_snoc : (place : ℕ) (xs : List Row) (row : Row) → uppers_of place (xs ++ row ∷ []) ≡ uppers_of place xs + one_below (coefficient row.affine place)
uppers_snoc place [] row = omega arith
uppers_snoc place (x ∷ xs) row = let e = uppers_snoc place xs row in omega (arith, e)

pub lowers_more : (place : ℕ) (rows : List Row) (i : ℕ) (row : Row) → i < length rows → row ≡ get_or rows i row → lowers_of place (take (i + 1) rows) ≡ lowers_of place (take i rows) + one_above (coefficient row.affine place)
lowers_more place rows i row low is = ap (λ t. lowers_of place t) (take_snoc rows i row low is) ∙ lowers_snoc place (take i rows) row

pub uppers_more : (place : ℕ) (rows : List Row) (i : ℕ) (row : Row) → i < length rows → row ≡ get_or rows i row → uppers_of place (take (i + 1) rows) ≡ uppers_of place (take i rows) + one_below (coefficient row.affine place)
uppers_more place rows i row low is = ap (λ t. uppers_of place t) (take_snoc rows i row low is) ∙ uppers_snoc place (take i rows) row

one_side : (z : ℤ) → one_above z + one_below z ≤ 1
one_side (pos zero) = omega arith
one_side (pos (suc n)) = omega arith
one_side (negsuc n) = omega arith

pub sides_fit : (place : ℕ) (rows : List Row) → lowers_of place rows + uppers_of place rows ≤ length rows
sides_fit place [] = omega arith
sides_fit place (x ∷ xs) = let e = sides_fit place xs in let o = one_side (coefficient x.affine place) in omega (arith, e, o)

-- a row without the place is one of the others
pub others_more : (place : ℕ) (rows : List Row) (i : ℕ) (row : Row) → i < length rows → row ≡ get_or rows i row → coefficient row.affine place ≡ pos 0 → others_of place (take i rows) + 1 ≤ others_of place (take (i + 1) rows)
others_more place rows i row low is none =
    let l = lowers_more place rows i row low is in
    let u = uppers_more place rows i row low is in
    let a = above_none (coefficient row.affine place) (omega (arith, ints)) in
    let b = below_none (coefficient row.affine place) (omega (arith, ints)) in
    let f = sides_fit place (take i rows) in
    omega (arith, l, u, a, b, f, length-take-le i rows (omega arith), length-take-le (i + 1) rows (omega arith))

pub others_rise : (place : ℕ) (rows : List Row) (i : ℕ) (row : Row) → i < length rows → row ≡ get_or rows i row → others_of place (take i rows) ≤ others_of place (take (i + 1) rows)
others_rise place rows i row low is =
    let l = lowers_more place rows i row low is in
    let u = uppers_more place rows i row low is in
    let o = one_side (coefficient row.affine place) in
    omega (arith, l, u, o, length-take-le i rows (omega arith), length-take-le (i + 1) rows (omega arith))

-- ---- how long the list is

pub short_more : (before uppers others lowers next new : ℕ) → next ≡ lowers + 1 → before ≤ lowers * uppers + others → new ≤ before + uppers → new ≤ next * uppers + others
short_more before uppers others lowers next new is short more = omega (arith, ap (λ t. t * uppers) is, short, more)

pub short_same : (new lowers next one uppers others : ℕ) → next ≡ lowers + one → new ≤ lowers * uppers + others → new ≤ next * uppers + others
short_same new lowers next one uppers others is short =
    let p : lowers * uppers ≤ next * uppers = mul-le-mul_right uppers (omega (arith, is)) in
    omega (arith, short, p)

lowers_taken : (place i : ℕ) (rows : List Row) → lowers_of place (take i rows) ≤ lowers_of place rows
lowers_taken place zero rows = omega arith
lowers_taken place (suc i) [] = omega arith
lowers_taken place (suc i) (row ∷ rows) = let e = lowers_taken place i rows in omega (arith, e)

-- no more are made on the way than in all
pub made_within : (rows : List Row) (place i before new : ℕ) (lower : Row) → i < length rows → lower ≡ get_or rows i lower → IsLower place lower
    → before ≤ lowers_of place (take i rows) * uppers_of place rows + others_of place rows → new ≤ before + uppers_of place rows → new ≤ made_of place rows
made_within rows place i before new lower low is below short more =
    let l = lowers_more place rows i lower low is in
    let one = above_one (coefficient lower.affine place) below in
    let next = short_more before (uppers_of place rows) (others_of place rows) (lowers_of place (take i rows)) (lowers_of place (take (i + 1) rows)) new (omega (arith, l, one)) short more in
    let all : lowers_of place (take (i + 1) rows) * uppers_of place rows ≤ lowers_of place rows * uppers_of place rows = mul-le-mul_right (uppers_of place rows) (lowers_taken place (i + 1) rows) in
    omega (arith, next, all)

-- the whole elimination: what was made, and rows that stand for it
pub eliminated : (rows : List Row) (place i : ℕ) (made left : List Row) → length rows ≤ i → Grows rows place [] made → ImpliesRest rows place made → ImpliesPairs (take i rows) rows place made → length made ≤ lowers_of place (take i rows) * uppers_of place rows + others_of place rows → StandFor made left → IsEliminated rows place left
eliminated rows place i made left end grows rest pairs short stand = record {
  made = λ row member. ⊎_elim (λ (old : Contains [] row). absurd (omega (arith, old.1))) (λ (is : IsMade rows place row). is) (grows.among row (stand.among row member));
  rest = λ num den positive met. rest num den positive (stand.implies num den positive met);
  pairs = λ num den positive met. pairs_all rows i place made end pairs num den positive (stand.implies num den positive met);
  distinct = stand.distinct;
  short = subst (λ seen. length left ≤ lowers_of place seen * uppers_of place rows + others_of place rows) (take_all i rows end) (let s = stand.short in omega (arith, s, short));
}
