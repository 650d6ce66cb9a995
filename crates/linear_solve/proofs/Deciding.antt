-- From the tightest rows to the rows given, and the bounds as the callers read them.
use Rattle.std.proofs.Common.{◌≡◌, ◌≢◌, inl, inr, ℕ, add-one, ◌+◌, ◌*◌, ◌<◌, ◌≤◌, ◌^◌, ℤ, pos, ◌*ℤ◌, List, length, refl, sym, ap, subst, ◌∙◌, arith, All, ⊎_elim, cond, Option, None, Some, MatchOption}
use Rattle.std.specs.Bool.{⊤}
use Rattle.std.proofs.lemmas.Int.{ints}
use Rattle.std.proofs.lemmas.Bool.{cases_lt}
use Rattle.std.proofs.Math.Nat.{le_trans, pow-suc, pow-zero}
use Rattle.std.proofs.Math.Pow.{pow_mono}
use Rattle.linear_cons.specs.declared.row.Row.{Row}
use Rattle.linear_cons.specs.Functions.{multiple_of}
use Rattle.linear_cons.specs.Numbers.{number_at}
use Rattle.linear_cons.specs.Rows.{Meets, MeetsAll, PointMeets}
use Rattle.linear_cons.proofs.Places.{eqb_apart, length-at_places, number_at-set, number_at_places}
use Rattle.linear_cons.proofs.Ring.{mul_assoc, mul_commutes}
use Rattle.linear_cons.proofs.RowLaws.{opposed_never}
use Rattle.linear_solve.specs.Answers.{HasNoStore, IsAnswerTo, IsDecided, IsEmpty, IsPointOf, KeepsStores, MayOutgrow, MayOverflow, PointsExtend}
use Rattle.linear_solve.specs.declared.answer.Answer.{Answer}
use Rattle.linear_solve.specs.declared.answer.Answer.TheVariants.{Empty, Point as Found, Wide, Rows}
use Rattle.linear_solve.specs.Findings.{IsFinding}
use Rattle.linear_solve.specs.declared.attempt.Finding.{Finding}
use Rattle.linear_solve.specs.declared.attempt.Finding.TheVariants.{Nothing, Point as Proposed}
use Rattle.linear_solve.specs.Elimination.{HasUnfitPair, IsEliminated, IsNothing, StandFor, made_of}
use Rattle.linear_solve.specs.Points.{IsFree, IsPutBack, IsTightest, cleared, moved, numbers_of, numerator_of}
use Rattle.linear_solve.specs.Solving.{IsModest, IsTame}
use Rattle.linear_solve.specs.Systems.{HasOpposed, IsOctagonList, IsOctagonRow, IsSized, occurring, rows_after}
use Rattle.linear_solve.specs.declared.point.Bound.{Bound}
use Rattle.linear_solve.specs.declared.point.Point.{Point}
use Rattle.linear_solve.specs.declared.point.Side.TheVariants.{Below, Above}
use Rattle.linear_solve.proofs.Bounding.{tightest_exists}
use Rattle.linear_solve.proofs.Extending.{left_anywhere, left_met, put_back_meets}
use Rattle.linear_solve.proofs.Lists.{all_of, member_of}
use Rattle.linear_solve.proofs.Modest.{power_double, power_le, sized_pairs}
use Rattle.linear_solve.proofs.Occurring.{occurring_le, occurring_most, occurs_in, occurs_of}
use Rattle.linear_solve.proofs.Sizes.{mul_le_mul}
use Rattle.linear_solve.proofs.Solved.{after_made, after_mono, after_more}

pub no_store_of_opposed : (rows : List Row) → HasOpposed rows → HasNoStore rows
no_store_of_opposed rows two store met =
    opposed_never two.row two.other two.opposed store (pos 1) (omega (arith, ints)) (member_of (λ r. Meets store r) rows two.row met two.row_in) (member_of (λ r. Meets store r) rows two.other met two.other_in)

-- a point shows that no two rows are opposed
pub opposed_empty : (rows : List Row) (answer : Answer) → IsAnswerTo rows answer → HasOpposed rows → IsEmpty answer
opposed_empty rows Empty is two = tt
opposed_empty rows (Found num den) is two =
    opposed_never two.row two.other two.opposed num den is.positive (member_of (λ r. PointMeets num den r) rows two.row is.meets two.row_in) (member_of (λ r. PointMeets num den r) rows two.other is.meets two.other_in)
opposed_empty rows (Wide operands) is two = is.1.unopposed two
opposed_empty rows (Rows count) is two = is.1.unopposed two

pub octagons_decided : (rows : List Row) (answer : Answer) → IsAnswerTo rows answer → IsOctagonList rows → IsDecided answer
octagons_decided rows Empty is octagons = tt
octagons_decided rows (Found num den) is octagons = tt
octagons_decided rows (Wide operands) is octagons = is.1.no_octagons octagons
octagons_decided rows (Rows count) is octagons = is.1.no_octagons octagons

pub kept_met : (rows kept : List Row) (store : List ℤ) → StandFor rows kept → MeetsAll store rows → MeetsAll store kept
kept_met rows kept store stand met = all_of (λ r. Meets store r) kept (λ row member. member_of (λ r. Meets store r) rows row met (stand.among row member))

pub no_store_of_kept : (rows kept : List Row) → StandFor rows kept → HasNoStore kept → HasNoStore rows
no_store_of_kept rows kept stand none store met = none store (kept_met rows kept store stand met)

pub kept_occurs : (rows kept : List Row) → StandFor rows kept → occurring kept ≤ occurring rows
kept_occurs rows kept stand = occurring_le 16 kept rows (λ i low is. let found = occurs_in i kept is in occurs_of i rows found.0 (stand.among found.0 found.1.0) found.1.1)

-- a point of the kept rows is one of the rows
pub kept_point : (rows kept : List Row) (num : List ℤ) (den : ℤ) → StandFor rows kept → IsPointOf kept num den → IsPointOf rows num den
kept_point rows kept num den stand point = record { positive = point.positive; meets = stand.implies num den point.positive point.meets }

-- what is found of the kept rows is found of the rows
pub finding_of_kept : (rows kept : List Row) (found : Option Finding) → StandFor rows kept → MatchOption found ⊤ (IsFinding kept) → MatchOption found ⊤ (IsFinding rows)
finding_of_kept rows kept None stand is = tt
finding_of_kept rows kept (Some Nothing) stand is = no_store_of_kept rows kept stand is
finding_of_kept rows kept (Some (Proposed point)) stand is = kept_point rows kept point.num point.den stand is

pub kept_sized : (rows kept : List Row) (bound : ℕ) → StandFor rows kept → All (IsSized bound) rows → All (IsSized bound) kept
kept_sized rows kept bound stand sized = all_of (IsSized bound) kept (λ row member. member_of (IsSized bound) rows row sized (stand.among row member))

-- a number whose square is at most 2^126 is at most 2^63
root_small : (x : ℕ) → x * x ≤ 2 ^ 126 → x ≤ 2 ^ 63
root_small x small = ⊎_elim
    (λ (more : 2 ^ 63 < x). absurd (let p = mul_le_mul (2 ^ 63 + 1) x (2 ^ 63 + 1) x (omega (arith, more)) (omega (arith, more)) in omega (arith, p, small)))
    (λ (less : x ≤ 2 ^ 63). less)
    (cases_lt (2 ^ 63) x)

-- rows that are not modest at any bounds may outgrow
pub outgrow : (rows kept : List Row) → StandFor rows kept → ((size c root : ℕ) → IsModest size c root kept → ⊥) → MayOutgrow (occurring rows) rows
outgrow rows kept stand never bound sized = ⊎_elim
    (λ (more : 2 ^ 126 < (34 * bound) ^ (2 ^ (occurring rows + 1))). more)
    (λ (less : (34 * bound) ^ (2 ^ (occurring rows + 1)) ≤ 2 ^ 126). absurd (
    let square : (34 * bound) ^ (2 ^ occurring rows) * (34 * bound) ^ (2 ^ occurring rows) ≤ 2 ^ 126 = rw (add-one, power_double) at less in
    never bound (34 * bound) ((34 * bound) ^ (2 ^ occurring kept)) (record {
      sized = kept_sized rows kept bound stand sized;
      factor = omega arith;
      power = omega arith;
      root_fits = le_trans (power_le (34 * bound) (occurring kept) (occurring rows) (kept_occurs rows kept stand)) (root_small _ square);
    })))
    (cases_lt (2 ^ 126) ((34 * bound) ^ (2 ^ (occurring rows + 1))))

pub overflow : (rows kept : List Row) → StandFor rows kept → 4096 < rows_after (occurring kept) (length kept) → MayOverflow (occurring rows) rows
overflow rows kept stand many =
    let p = after_mono (occurring kept) (length kept) (length rows) stand.short in
    let q = after_more (occurring kept) (occurring rows) (length rows) (kept_occurs rows kept stand) in
    omega (arith, p, q, many)

pub tame_kept : (rows kept : List Row) → StandFor rows kept → IsOctagonList rows → IsTame (2 ^ 64) kept
tame_kept rows kept stand octagons = record {
  distinct = stand.distinct;
  octagons = all_of (IsOctagonRow (2 ^ 64)) kept (λ row member. member_of (IsOctagonRow (2 ^ 64)) rows row octagons (stand.among row member));
  power = sixteen (occurring kept) (occurring_most 16 kept);
}
  where
    sixteen : (n : ℕ) → n ≤ 16 → 2 ^ 64 * 2 ^ n ≤ 2 ^ 80
    sixteen n le = let p : 2 ^ n ≤ 2 ^ 16 = pow_mono le in omega (arith, p)

-- ---- one place

square_is : (x : ℕ) → x ^ (2 ^ 1) ≡ x * x
square_is x = pow-suc x 1 ∙ ap (λ t. t * x) (pow-suc x 0 ∙ ap (λ t. t * x) (pow-zero x) ∙ one_times x)
  where
    one_times : (n : ℕ) → 1 * n ≡ n
    one_times n = omega arith

pub outgrow_one : (rows kept : List Row) (place : ℕ) → place < 16 → StandFor rows kept → HasUnfitPair kept place → MayOutgrow 1 rows
outgrow_one rows kept place inside stand unfit bound sized = ⊎_elim
    (λ (more : 2 ^ 126 < (34 * bound) ^ (2 ^ (1 + 1))). more)
    (λ (less : (34 * bound) ^ (2 ^ (1 + 1)) ≤ 2 ^ 126). absurd (
    let square : (34 * bound) ^ (2 ^ 1) * (34 * bound) ^ (2 ^ 1) ≤ 2 ^ 126 = rw (power_double) at less in
    let root = root_small _ square in
    let double : (34 * bound) ^ (2 ^ 1) ≡ (34 * bound) * (34 * bound) = square_is (34 * bound) in
    sized_pairs kept place bound inside (kept_sized rows kept bound stand sized) (omega (arith, root, double)) unfit))
    (cases_lt (2 ^ 126) ((34 * bound) ^ (2 ^ (1 + 1))))

pub overflow_one : (rows kept : List Row) (place : ℕ) → StandFor rows kept → 4096 < made_of place kept → MayOverflow 1 rows
overflow_one rows kept place stand many =
    let p = after_made kept place 1 (omega arith) in
    let q = after_mono 1 (length kept) (length rows) stand.short in
    omega (arith, p, q, many)

pub stores_kept : (rows kept : List Row) (place : ℕ) (left : List Row) → place < 16 → StandFor rows kept → IsEliminated kept place left → KeepsStores rows place left
stores_kept rows kept place left inside stand eliminated store z long met =
    left_anywhere kept place left store (pos 1) z inside long eliminated (left_met kept place left store eliminated (kept_met rows kept store stand met))

-- a point of what is left, with the place put back
put_back_exists : (rows : List Row) (place : ℕ) (num : List ℤ) (den : ℤ) → (point : Point) × IsPutBack rows place num den point
put_back_exists rows place num den = ⊎_elim
    (λ (below : IsFree rows place Below). ⊎_elim
    (λ (above : IsFree rows place Above). (record { num = cleared num place; den = den }, inr (below, above, refl)))
    (λ (found : (bound : Bound) × IsTightest rows place Above (cleared num place) den bound). (moved (cleared num place) den place Above found.0, inl (Above, (found.0, (found.1, refl)))))
    (tightest_exists rows place Above (cleared num place) den))
    (λ (found : (bound : Bound) × IsTightest rows place Below (cleared num place) den bound). (moved (cleared num place) den place Below found.0, inl (Below, (found.0, (found.1, refl)))))
    (tightest_exists rows place Below (cleared num place) den)

cleared_elsewhere : (num : List ℤ) (place i : ℕ) → place < length num → i ≢ place → number_at (cleared num place) i ≡ number_at num i
cleared_elsewhere num place i low apart = number_at-set num place i (pos 0) low ∙ ap (λ t. cond t (pos 0) (number_at num i)) (eqb_apart i place apart)

put_back_elsewhere : (rows : List Row) (place : ℕ) (num : List ℤ) (den : ℤ) (point : Point) → place < 16 → length num ≡ 16 → IsPutBack rows place num den point → (i : ℕ) → i < 16 → i ≢ place → number_at point.num i *ℤ den ≡ number_at num i *ℤ point.den
put_back_elsewhere rows place num den point inside long (inl (side, (bound, (tightest, is)))) i low apart =
    subst (λ (t : Point). number_at t.num i *ℤ den ≡ number_at num i *ℤ t.den) (sym is) (
    let scaled : List ℤ = (multiple_of (numbers_of (cleared num place) den) bound.slope).coef in
    let number : number_at (moved (cleared num place) den place side bound).num i ≡ number_at num i *ℤ bound.slope =
    number_at-set scaled place i (numerator_of side bound.form) (rw length-at_places inside)
    ∙ ap (λ t. cond t (numerator_of side bound.form) (number_at scaled i)) (eqb_apart i place apart)
    ∙ number_at_places (λ i. number_at (cleared num place) i *ℤ bound.slope) i low
    ∙ ap (λ t. t *ℤ bound.slope) (cleared_elsewhere num place i (omega (arith, long)) apart) in
    ap (λ t. t *ℤ den) number ∙ mul_assoc (number_at num i) bound.slope den ∙ ap (λ t. number_at num i *ℤ t) (mul_commutes bound.slope den))
put_back_elsewhere rows place num den point inside long (inr (below, above, is)) i low apart =
    subst (λ (t : Point). number_at t.num i *ℤ den ≡ number_at num i *ℤ t.den) (sym is) (ap (λ t. t *ℤ den) (cleared_elsewhere num place i (omega (arith, long)) apart))

pub points_extend : (rows kept : List Row) (place : ℕ) (left : List Row) → place < 16 → StandFor rows kept → IsEliminated kept place left → PointsExtend rows place left
points_extend rows kept place left inside stand eliminated num den long meets =
    let found = put_back_exists kept place num den in
    let point : Point = found.0 in
    let kept_meets = put_back_meets kept place left num den point inside long eliminated meets found.1 in
    record {
      numerators = point.num;
      denominator = point.den;
      meets = record { positive = kept_meets.positive; meets = stand.implies point.num point.den kept_meets.positive kept_meets.meets };
      elsewhere = put_back_elsewhere kept place num den point inside long found.1;
    }

-- where no store meets the rows, rows that no point meets stand for them
pub stores_nothing : (rows : List Row) (place : ℕ) (left : List Row) → HasNoStore rows → KeepsStores rows place left
stores_nothing rows place left none store z long met = absurd (none store met)

pub points_nothing : (rows : List Row) (place : ℕ) (left : List Row) → IsNothing left → PointsExtend rows place left
points_nothing rows place left nothing num den long meets = absurd (nothing num den meets.positive meets.meets)
