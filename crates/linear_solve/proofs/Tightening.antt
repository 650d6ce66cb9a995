-- The tightest of rows: they are sorted, and of the rows with one linear part the first stays.
use Rattle.std.proofs.Common.{◌≡◌, ◌≢◌, ℕ, zero, suc, ◌+◌, ◌<◌, ◌≤◌, ℤ, pos, ◌*ℤ◌, ◌≤ℤ◌, ◌<ℤ◌, Bool, true, false, cond, List, [], ◌∷◌, length, map, get_or, int_lt, refl, sym, ap, subst, ◌∙◌, arith, Contains}
use Rattle.std.proofs.lemmas.Int.{ints}
use Rattle.std.proofs.lemmas.Bool.Decides.{Decides-int_eq}
use Rattle.std.proofs.lemmas.Cmp.{int_cmp_total, lists_total, then_total}
use Rattle.std.proofs.lemmas.List.Elements.{All-map, Contains-get_or}
use Rattle.std.proofs.lemmas.List.Kept.{Contains-from_dedup, IsStrictlySortedBy-dedup}
use Rattle.std.proofs.lemmas.List.Sorted.{Contains-permutation, IsPermutation-sym, ranks_by, sorted_far}
use Rattle.std.proofs.lemmas.Slice.Eq.{slice_eq-Decides}
use Rattle.std.specs.Cmp.{Equal-is, both_ways, IsStrictWeakOrder, IsTotalOrder, on_total}
use Rattle.std.specs.Cmp.Lexicographic.{lists_ties, slice_cmp}
use Rattle.std.specs.List.{AllByRecursion, dedup, dedup_from}
use Rattle.std.specs.List.Sorted.{IsPermutation, IsSorted, IsSortedBy, IsStrictlySortedBy}
use Rattle.std.specs.Ordering.{int_cmp, is_lt, ordering_then}
use Rattle.std.specs.declared.cmp.Ordering.{Ordering}
use Rattle.std.specs.declared.cmp.Ordering.TheVariants.{Less, Equal, Greater}
use Rattle.linear_cons.specs.declared.affine.Affine.{Affine}
use Rattle.linear_cons.specs.declared.row.Row.{Row}
use Rattle.linear_cons.specs.Functions.{coefficient, form_at}
use Rattle.linear_cons.specs.LinearForm.{products_below, linear_form}
use Rattle.linear_cons.specs.Numbers.{number_at}
use Rattle.linear_cons.specs.Rows.{PointMeets}
use Rattle.linear_cons.proofs.Forms.{products_same}
use Rattle.linear_cons.proofs.Places.{length-at_places, number_at_places, places-ext}
use Rattle.linear_cons.proofs.Ring.{mul_commutes, mul_le}
use Rattle.linear_cons.proofs.RowLaws.{row_same}
use Rattle.linear_solve.specs.Elimination.{StandFor}
use Rattle.linear_cons.specs.Tightest.{AreDistinct, AreTightest, IsCovered, IsSamePart}
use Rattle.linear_solve.specs.Tightest.{by_part, by_part_and_constant, part_of, same_part}
use Rattle.linear_solve.proofs.Lists.{all_of, behind, in_map, member_of, of_map}

-- ---- linear parts

part_at : (row : Row) (i : ℕ) → i < 16 → number_at (part_of row) i ≡ coefficient row.affine i
part_at row i low = number_at_places (λ i. coefficient row.affine i) i low

part_long : (row : Row) → length (part_of row) ≡ 16
part_long row = length-at_places (λ i. coefficient row.affine i)

part_of_same : (row other : Row) → IsSamePart row.affine other.affine → part_of row ≡ part_of other
part_of_same row other same =
    places-ext (part_of row) (part_of other) (part_long row) (part_long other) (λ i low. part_at row i low ∙ same i low ∙ sym (part_at other i low))

same_of_part : (row other : Row) → same_part row other ≡ true → IsSamePart row.affine other.affine
same_of_part row other equal i low =
    let parts : part_of row ≡ part_of other = (slice_eq-Decides Decides-int_eq (part_of row) (part_of other) _ refl).0 equal in
    sym (part_at row i low) ∙ ap (λ t. number_at t i) parts ∙ part_at other i low

part_of_same_part : (row other : Row) → IsSamePart row.affine other.affine → same_part row other ≡ true
part_of_same_part row other same = (slice_eq-Decides Decides-int_eq (part_of row) (part_of other) _ refl).1 (part_of_same row other same)

-- a test that is true exactly at the same part
pub tests_part : (test : Bool) (row other : Row) → (test ≡ true → IsSamePart row.affine other.affine) → (IsSamePart row.affine other.affine → test ≡ true) →
    test ≡ same_part row other
tests_part test row other only all = both_ways test (same_part row other) (λ e. part_of_same_part row other (only e)) (λ e. all (same_of_part row other e))

-- ---- the order of rows

by_part_total : IsTotalOrder by_part
by_part_total = on_total part_of (lists_total int_cmp_total)

by_both_total : IsTotalOrder by_part_and_constant
by_both_total = then_total by_part_total (on_total (λ (row : Row). row.affine.constant) int_cmp_total)

abbrev pub is_less : Row → Row → Bool
is_less row other = is_lt (by_part_and_constant row other)

pub is_less-weak : IsStrictWeakOrder is_less
is_less-weak = ranks_by by_both_total (λ (row : Row). row)

then_first : (first second : Ordering) → first ≢ Equal → ordering_then first second ≡ first
then_first Less second apart = refl
then_first Equal second apart = absurd (apart refl)
then_first Greater second apart = refl

int_cmp_same : (z : ℤ) → int_cmp z z ≡ Equal
int_cmp_same z = (Equal-is (int_cmp z z)).0 ((Decides-int_eq z z).1 refl)

-- of two lists the first place at which they differ decides
first_apart : (n : ℕ) (xs ys : List ℤ) → n < length xs → n < length ys → ((i : ℕ) → i < n → number_at xs i ≡ number_at ys i) →
    int_cmp (number_at xs n) (number_at ys n) ≢ Equal → slice_cmp int_cmp xs ys ≡ int_cmp (number_at xs n) (number_at ys n)
first_apart n [] ys low other same apart = absurd (omega arith)
first_apart n (x ∷ xs) [] low other same apart = absurd (omega arith)
first_apart zero (x ∷ xs) (y ∷ ys) low other same apart = then_first (int_cmp x y) (slice_cmp int_cmp xs ys) apart
first_apart (suc n) (x ∷ xs) (y ∷ ys) low other same apart =
    let first : x ≡ y = same 0 (omega arith) in
    let equal : int_cmp x y ≡ Equal = ap (λ t. int_cmp x t) (sym first) ∙ int_cmp_same x in
    ap (λ t. ordering_then t (slice_cmp int_cmp xs ys)) equal
    ∙ first_apart n xs ys (omega arith) (omega arith) (λ i less. same (suc i) (omega arith)) apart

same_list : (xs : List ℤ) → slice_cmp int_cmp xs xs ≡ Equal
same_list [] = refl
same_list (x ∷ xs) = ap (λ t. ordering_then t (slice_cmp int_cmp xs xs)) (int_cmp_same x) ∙ same_list xs

by_part_same : (row other : Row) → IsSamePart row.affine other.affine → by_part row other ≡ Equal
by_part_same row other same = ap (λ t. slice_cmp int_cmp (part_of row) t) (sym (part_of_same row other same)) ∙ same_list (part_of row)

pub order_apart : (row other : Row) (n : ℕ) → n < 16 → ((i : ℕ) → i < n → coefficient row.affine i ≡ coefficient other.affine i) →
    int_cmp (coefficient row.affine n) (coefficient other.affine n) ≢ Equal →
    int_cmp (coefficient row.affine n) (coefficient other.affine n) ≡ by_part_and_constant row other
order_apart row other n low same apart =
    let here : int_cmp (number_at (part_of row) n) (number_at (part_of other) n) ≡ int_cmp (coefficient row.affine n) (coefficient other.affine n) = rw (part_at row n low, part_at other n low) refl in
    let unequal : int_cmp (number_at (part_of row) n) (number_at (part_of other) n) ≢ Equal = λ e. apart (sym here ∙ e) in
    let parts : by_part row other ≡ int_cmp (number_at (part_of row) n) (number_at (part_of other) n) =
    first_apart n (part_of row) (part_of other) (omega (arith, part_long row)) (omega (arith, part_long other))
    (λ i less. part_at row i (omega arith) ∙ same i less ∙ sym (part_at other i (omega arith))) unequal in
    sym (then_first (by_part row other) (int_cmp row.affine.constant other.affine.constant) (λ e. unequal (sym parts ∙ e)) ∙ parts ∙ here)

pub order_same : (row other : Row) → IsSamePart row.affine other.affine → int_cmp row.affine.constant other.affine.constant ≡ by_part_and_constant row other
order_same row other same = sym (ap (λ t. ordering_then t (int_cmp row.affine.constant other.affine.constant)) (by_part_same row other same))

-- of two rows with one part, in order, the first has the lesser constant
lesser_first : (row other : Row) → IsSamePart row.affine other.affine → is_less other row ≡ false → row.affine.constant ≤ℤ other.affine.constant
lesser_first row other same late =
    let told : is_lt (int_cmp other.affine.constant row.affine.constant) ≡ false = ap (λ t. is_lt t) (order_same other row (λ i low. sym (same i low))) ∙ late in
    let not_less : int_lt other.affine.constant row.affine.constant ≡ false = no_less (int_lt other.affine.constant row.affine.constant) (int_lt row.affine.constant other.affine.constant) told in
    omega (arith, ints)
  where
    no_less : (test more : Bool) → is_lt (cond test Less (cond more Greater Equal)) ≡ false → test ≡ false
    no_less true more late = late
    no_less false more late = refl

-- ---- rows in order

abbrev IsLeast : Row → List Row → Type 0
IsLeast row rows = (other : Row) → Contains rows other → is_less other row ≡ false

-- no row is less than one before it
abbrev AreRising : List Row → Type 0
AreRising [] = Unit {0}
AreRising (row ∷ rows) = IsLeast row rows × AreRising rows

rising : (rows : List Row) → IsSortedBy is_less rows → AreRising rows
rising [] sorted = tt
rising (row ∷ rows) sorted = (
  λ other member. subst (λ t. is_less t row ≡ false) member.2 (sorted_far is_less is_less-weak (row ∷ rows) sorted 0 (suc member.0) other (omega arith) (omega (arith, member.1))),
  rising rows (λ k d from to. subst (λ i. is_less (get_or (row ∷ rows) i d) (get_or rows k d) ≡ false) (next k) (sorted (suc k) d (omega arith) (omega arith))),
)
  where
    next : (k : ℕ) → suc k + 1 ≡ suc (k + 1)
    next k = omega arith

-- no row has a lesser part than one before it
part_rising : (rows : List Row) → IsSortedBy is_less rows → IsSorted by_part rows
part_rising rows sorted k d from to = no_less (by_part (get_or rows (k + 1) d) (get_or rows k d)) _ (sorted k d from to)
  where
    no_less : (first second : Ordering) → is_lt (ordering_then first second) ≡ false → is_lt first ≡ false
    no_less Less second late = late
    no_less Equal second late = refl
    no_less Greater second late = refl

-- ---- of the rows with one part the first stays

covered_by_first : (rows : List Row) (row other : Row) → IsSamePart row.affine other.affine → is_less other row ≡ false → IsCovered rows row.affine →
    IsCovered rows other.affine
covered_by_first rows row other same late covered =
    let first = lesser_first row other same late in
    let second = covered.tighter in
    record { row = covered.row; row_in = covered.row_in; part = λ i low. covered.part i low ∙ same i low; tighter = omega (arith, ints) }

covered_behind : (first : Row) (rows : List Row) (a : Affine) → IsCovered rows a → IsCovered (first ∷ rows) a
covered_behind first rows a covered = record {
  row = covered.row;
  row_in = (suc covered.row_in.0, omega (arith, covered.row_in.1), covered.row_in.2);
  part = covered.part;
  tighter = covered.tighter;
}

covered_itself : (row : Row) (rows : List Row) → IsCovered (row ∷ rows) row.affine
covered_itself row rows = record { row = row; row_in = (0, omega arith, refl); part = λ i low. refl; tighter = omega (arith, ints) }

-- what is left of the rows from a first and a next one on, where the test tells whether these have one part
abbrev kept_by : Bool → Row → Row → List Row → List Row
kept_by test first next rows = cond test (dedup_from same_part first rows) (first ∷ dedup_from same_part next rows)

-- the rows that are left cover a first one and those behind it
record Covers (kept : List Row) (first : Row) (rows : List Row) : Type 0 where
  first_is : IsCovered kept first.affine
  rest_are : (row : Row) → Contains rows row → IsCovered kept row.affine

by_place : (P : Row → Type 0) (next : Row) (rows : List Row) → P next → ((row : Row) → Contains rows row → P row) → (row : Row) → Contains (next ∷ rows) row →
    P row
by_place P next rows here later row (zero, low, is) = subst P is here
by_place P next rows here later row (suc k, low, is) = later row (k, omega arith, is)

covers_by : (test : Bool) (first next : Row) (rows : List Row) → same_part next first ≡ test → is_less next first ≡ false →
    Covers (dedup_from same_part first rows) first rows → Covers (dedup_from same_part next rows) next rows →
    Covers (kept_by test first next rows) first (next ∷ rows)
covers_by true first next rows same late with_first with_next = record {
  first_is = with_first.first_is;
  rest_are = by_place (λ row. IsCovered (dedup_from same_part first rows) row.affine) next rows
      (covered_by_first (dedup_from same_part first rows) first next (λ i low. sym (same_of_part next first same i low)) late with_first.first_is)
      with_first.rest_are;
}
covers_by false first next rows apart late with_first with_next = record {
  first_is = covered_itself first (dedup_from same_part next rows);
  rest_are = by_place (λ row. IsCovered (first ∷ dedup_from same_part next rows) row.affine) next rows
      (covered_behind first (dedup_from same_part next rows) next.affine with_next.first_is)
      (λ row member. covered_behind first (dedup_from same_part next rows) row.affine (with_next.rest_are row member));
}

covers_from : (first : Row) (rows : List Row) → IsLeast first rows → AreRising rows → Covers (dedup_from same_part first rows) first rows
covers_from first [] least rise = record { first_is = covered_itself first []; rest_are = λ row member. absurd (omega (arith, member.1)) }
covers_from first (next ∷ rows) least rise =
    covers_by (same_part next first) first next rows refl (least next (0, omega arith, refl))
    (covers_from first rows (λ other member. least other (behind rows next other member)) rise.1)
    (covers_from next rows rise.0 rise.1)

covers_all : (rows : List Row) → AreRising rows → (row : Row) → Contains rows row → IsCovered (dedup same_part rows) row.affine
covers_all [] rise row member = absurd (omega (arith, member.1))
covers_all (first ∷ rows) rise row member =
    let all = covers_from first rows rise.0 rise.1 in
    by_place (λ row. IsCovered (dedup_from same_part first rows) row.affine) first rows all.first_is all.rest_are row member

-- rows whose parts strictly rise have different ones
apart : (row : Row) (rows : List Row) → AllByRecursion (λ other. by_part row other ≡ Less) rows → (other : Row) → Contains rows other →
    IsSamePart row.affine other.affine → ⊥
apart row [] all other member same = absurd (omega (arith, member.1))
apart row (next ∷ rows) all other (zero, low, is) same =
    let equal : by_part row next ≡ Equal = by_part_same row next (subst (λ (t : Row). IsSamePart row.affine t.affine) (sym is) same) in
    absurd (cc (all.0, equal))
apart row (next ∷ rows) all other (suc k, low, is) same = apart row rows all.1 other (k, omega arith, is) same

distinct : (rows : List Row) → IsStrictlySortedBy by_part rows → AreDistinct rows
unfolding IsStrictlySortedBy
distinct [] sorted i j d less low = absurd (omega arith)
distinct (row ∷ rows) sorted i zero d less low = absurd (omega arith)
distinct (row ∷ rows) sorted zero (suc j) d less low = apart row rows sorted.0 (get_or rows j d) (Contains-get_or rows j d (omega arith))
distinct (row ∷ rows) sorted (suc i) (suc j) d less low = distinct rows sorted.1 i j d (omega arith) (omega arith)

-- sorted rows without those that have the part of one before: their parts strictly rise, and they are the tightest
pub parts_rise : (sorted : List Row) → IsSortedBy is_less sorted → IsStrictlySortedBy by_part (dedup same_part sorted)
parts_rise sorted order =
    IsStrictlySortedBy-dedup by_part_total (λ row other. lists_ties int_cmp (λ x y. refl) (part_of row) (part_of other)) sorted (part_rising sorted order)

pub tightest_of : (rows sorted : List Row) → IsPermutation rows sorted → IsSortedBy is_less sorted →
    AreTightest (map (λ (row : Row). row.affine) rows) (dedup same_part sorted)
tightest_of rows sorted moved order = record {
  among = all_of (λ (row : Row). Contains (map (λ (r : Row). r.affine) rows) row.affine) (dedup same_part sorted) (λ row member.
      in_map (λ (r : Row). r.affine) rows row (Contains-permutation sorted rows row (IsPermutation-sym rows sorted moved) (Contains-from_dedup same_part sorted row member)));
  covers = All-map (λ a. IsCovered (dedup same_part sorted) a) (λ (r : Row). r.affine) rows
      (all_of (λ (row : Row). IsCovered (dedup same_part sorted) row.affine) rows (λ row member. covers_all sorted (rising sorted order) row (Contains-permutation rows sorted row moved member)));
  distinct = distinct (dedup same_part sorted) (parts_rise sorted order);
}

-- ---- rows that stand for others

-- a row of the same linear part with a constant that is not less is implied
pub looser_met : (row : Row) (a : Affine) (num : List ℤ) (den : ℤ) → IsSamePart row.affine a → row.affine.constant ≤ℤ a.constant → pos 0 <ℤ den → PointMeets num den row →
    pos 0 ≤ℤ form_at a num den
unfolding linear_form
looser_met row a num den same le positive met =
    let sums : products_below 16 row.affine.coef num ≡ products_below 16 a.coef num = products_same 16 row.affine.coef a.coef num num (λ i h. ap (λ t. t *ℤ number_at num i) (same i h)) in
    let constants = mul_le den row.affine.constant a.constant (omega (arith, ints)) le in
    let left = mul_commutes den row.affine.constant in
    let right = mul_commutes den a.constant in
    omega (arith, ints)

pub stand_for : (rows kept : List Row) → AreTightest (map (λ (row : Row). row.affine) rows) kept → length kept ≤ length rows → StandFor rows kept
stand_for rows kept tightest short = record {
  among = λ row member.
      let affine = member_of (λ (r : Row). Contains (map (λ (t : Row). t.affine) rows) r.affine) kept row tightest.among member in
      let found = of_map (λ (r : Row). r.affine) rows row.affine affine in
      subst (λ t. Contains rows t) (row_same found.0 row found.2) found.1;
  implies = λ num den positive met. all_of (λ r. PointMeets num den r) rows (λ row member.
      let covered = member_of (λ a. IsCovered kept a) (map (λ (r : Row). r.affine) rows) row.affine tightest.covers (in_map (λ (r : Row). r.affine) rows row member) in
      looser_met covered.row row.affine num den covered.part covered.tighter positive (member_of (λ r. PointMeets num den r) kept covered.row met covered.row_in));
  distinct = tightest.distinct;
  short = short;
}
