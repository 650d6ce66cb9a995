-- What is answered to the tightest rows of a list is an answer to the list.
use Rattle.std.proofs.Common.{◌+◌, ◌*◌, ◌^◌, ◌∙◌, neg_ℤ, List, map, refl, sym, ap, subst, arith, All, Contains}
use Rattle.std.proofs.lemmas.Int.{ints}
use Rattle.std.proofs.lemmas.List.Elements.{All-map}
use Rattle.linear_cons.specs.declared.affine.Affine.{Affine}
use Rattle.linear_cons.specs.declared.row.Row.{Row}
use Rattle.linear_solve.specs.Answers.{IsAnswerTo, MayOutgrow, TightestOutgrown}
use Rattle.linear_solve.specs.Elimination.{StandFor}
use Rattle.linear_solve.specs.Systems.{HasOpposed, IsOctagonList, IsOctagonRow, occurring}
use Rattle.linear_cons.specs.Tightest.{AreDistinct, AreTightest, IsCovered}
use Rattle.linear_solve.specs.declared.answer.Answer.{Answer}
use Rattle.linear_solve.specs.declared.answer.Answer.TheVariants.{Empty, Point as Found, Wide, Rows}
use Rattle.linear_solve.proofs.Deciding.{kept_occurs, kept_point, kept_sized, no_store_of_kept, overflow}
use Rattle.linear_solve.proofs.Lists.{all_of, in_map, member_of, of_map}
use Rattle.linear_solve.proofs.Modest.{power_le}
use Rattle.linear_solve.proofs.Tightening.{stand_for}

abbrev functions_of : List Row → List Affine
functions_of rows = map (λ (row : Row). row.affine) rows

-- the row of the list that covers one of the functions
covering : (rows kept : List Row) → AreTightest (functions_of rows) kept → (row : Row) → Contains rows row → IsCovered kept row.affine
covering rows kept tightest row member = member_of (λ a. IsCovered kept a) (functions_of rows) row.affine tightest.covers (in_map (λ (r : Row). r.affine) rows row member)

covers_all : (rows kept : List Row) → ((row : Row) → Contains rows row → IsCovered kept row.affine) → All (λ a. IsCovered kept a) (functions_of rows)
covers_all rows kept each = All-map (λ a. IsCovered kept a) (λ (r : Row). r.affine) rows (all_of (λ (row : Row). IsCovered kept row.affine) rows each)

-- ---- rows of different parts are their own tightest

pub tightest_itself : (rows : List Row) → AreDistinct rows → AreTightest (functions_of rows) rows
tightest_itself rows apart = record {
  among = all_of (λ (row : Row). Contains (functions_of rows) row.affine) rows (λ row member. in_map (λ (r : Row). r.affine) rows row member);
  covers = covers_all rows rows (λ row member. record { row = row; row_in = member; part = λ i low. refl; tighter = omega (arith, ints) });
  distinct = apart;
}

pub stand_themselves : (rows : List Row) → AreDistinct rows → StandFor rows rows
stand_themselves rows apart = stand_for rows rows (tightest_itself rows apart) (omega arith)

-- ---- from the tightest rows to all rows

-- the tightest of the tightest rows are the tightest
tightest_again : (rows kept left : List Row) → AreTightest (functions_of rows) kept → AreTightest (functions_of kept) left → AreTightest (functions_of rows) left
tightest_again rows kept left first second = record {
  among = all_of (λ (row : Row). Contains (functions_of rows) row.affine) left (λ row member.
      let found = of_map (λ (r : Row). r.affine) kept row.affine (member_of (λ (r : Row). Contains (functions_of kept) r.affine) left row second.among member) in
      subst (λ (a : Affine). Contains (functions_of rows) a) found.2 (member_of (λ (r : Row). Contains (functions_of rows) r.affine) kept found.0 first.among found.1));
  covers = covers_all rows left (λ row member.
      let outer = covering rows kept first row member in
      let inner = covering kept left second outer.row outer.row_in in
      let o = outer.tighter in
      let i = inner.tighter in
      record { row = inner.row; row_in = inner.row_in; part = λ i low. inner.part i low ∙ outer.part i low; tighter = omega (arith, ints, o, i) });
  distinct = second.distinct;
}

-- two opposed rows leave two that are opposed
opposed_kept : (rows kept : List Row) → AreTightest (functions_of rows) kept → HasOpposed rows → HasOpposed kept
opposed_kept rows kept tightest two =
    let first = covering rows kept tightest two.row two.row_in in
    let second = covering rows kept tightest two.other two.other_in in
    let f = first.tighter in
    let s = second.tighter in
    let sum = two.opposed.constants in
    record {
      row = first.row;
      other = second.row;
      row_in = first.row_in;
      other_in = second.row_in;
      opposed = record {
        negatives = λ i low. second.part i low ∙ two.opposed.negatives i low ∙ ap neg_ℤ (sym (first.part i low));
        constants = omega (arith, ints, f, s, sum);
      };
    }

octagons_kept : (rows kept : List Row) → StandFor rows kept → IsOctagonList rows → IsOctagonList kept
octagons_kept rows kept stand octagons = all_of (IsOctagonRow (2 ^ 64)) kept (λ row member. member_of (IsOctagonRow (2 ^ 64)) rows row octagons (stand.among row member))

outgrow_kept : (rows kept : List Row) → StandFor rows kept → MayOutgrow (occurring kept) kept → MayOutgrow (occurring rows) rows
outgrow_kept rows kept stand large bound sized =
    let more = large bound (kept_sized rows kept bound stand sized) in
    let fewer = kept_occurs rows kept stand in
    let power = power_le (34 * bound) (occurring kept + 1) (occurring rows + 1) (omega (arith, fewer)) in
    omega (arith, more, power)

outgrown_kept : (rows kept : List Row) → AreTightest (functions_of rows) kept → TightestOutgrown kept → TightestOutgrown rows
outgrown_kept rows kept tightest is = record {
  kept = is.kept;
  tightest = tightest_again rows kept is.kept tightest is.tightest;
  outgrown = is.outgrown;
}

pub answer_of_kept : (rows kept : List Row) (answer : Answer) → StandFor rows kept → AreTightest (functions_of rows) kept → IsAnswerTo kept answer → IsAnswerTo rows answer
answer_of_kept rows kept Empty stand tightest is = no_store_of_kept rows kept stand is
answer_of_kept rows kept (Found num den) stand tightest is = kept_point rows kept num den stand is
answer_of_kept rows kept (Wide operands) stand tightest is = (
  is.0,
  record {
    unopposed = λ two. is.1.unopposed (opposed_kept rows kept tightest two);
    no_octagons = λ octagons. is.1.no_octagons (octagons_kept rows kept stand octagons);
    large = outgrow_kept rows kept stand is.1.large;
  },
)
answer_of_kept rows kept (Rows count) stand tightest is = (
  is.0,
  record {
    unopposed = λ two. is.1.unopposed (opposed_kept rows kept tightest two);
    no_octagons = λ octagons. is.1.no_octagons (octagons_kept rows kept stand octagons);
    many = overflow rows kept stand is.1.many;
    outgrown = outgrown_kept rows kept tightest is.1.outgrown;
  },
)
