-- Rows that imply all of some others: what they give as a reason these give, and two of these are opposed only where two of them are.
use Rattle.std.proofs.Common.{inl, inr, ◌+◌, ◌*◌, ◌≤◌, ◌^◌, ◌≡◌, ℤ, true, List, [], ◌∷◌, ◌++◌, length, Contains, refl, ap, arith}
use Rattle.std.proofs.lemmas.Int.{ints}
use Rattle.std.proofs.lemmas.List.{length-append}
use Rattle.std.proofs.lemmas.List.Elements.{All-append, All-push, All-weaker, Contains-append_left, Contains-append_right}
use Rattle.linear_cons.specs.declared.affine.Affine.{Affine}
use Rattle.linear_cons.specs.declared.row.Row.{Row}
use Rattle.linear_cons.specs.Numbers.{number_at}
use Rattle.linear_cons.specs.Rows.{AreOpposed, PointMeets, PointMeetsAll}
use Rattle.linear_cons.specs.Settling.{tells}
use Rattle.linear_cons.specs.Tightest.{IsCovered}
use Rattle.linear_cons.proofs.Telling.{tells-Decides}
use Rattle.linear_solve.proofs.Lists.{all_of, member_of}
use Rattle.linear_solve.proofs.Modest.{power_le}
use Rattle.linear_solve.proofs.Occurring.{occurring_le, occurs_in, occurs_of}
use Rattle.linear_solve.proofs.Solved.{after_mono, after_more}
use Rattle.linear_solve.proofs.Tightening.{looser_met}
use Rattle.linear_solve.specs.Answers.{IsPointOf, MayOutgrow, MayOverflow}
use Rattle.linear_solve.specs.Systems.{HasOpposed, IsOctagonList, IsOctagonRow, IsSized, occurring}
use Rattle.integer_point.proofs.Hardness as hardness
use Rattle.constraint_stack.specs.Reasons.{IsReasonable}
use Rattle.constraint_stack.specs.Stacks.{Cover}

-- ---- one row that is implied

pub covered_self : (rows : List Row) (row : Row) → Contains rows row → IsCovered rows row.affine
covered_self rows row member = record { row = row; row_in = member; part = λ i low. refl; tighter = omega (arith, ints) }

pub covered_left : (rows more : List Row) (a : Affine) → IsCovered rows a → IsCovered (rows ++ more) a
covered_left rows more a covered = record {
  row = covered.row;
  row_in = Contains-append_left rows more covered.row covered.row_in;
  part = covered.part;
  tighter = covered.tighter;
}

pub covered_behind : (first : Row) (rest : List Row) (a : Affine) → IsCovered rest a → IsCovered (first ∷ rest) a
covered_behind first rest a covered = record {
  row = covered.row;
  row_in = Contains-append_right (first ∷ []) rest covered.row covered.row_in;
  part = covered.part;
  tighter = covered.tighter;
}

pub told_function : (given : Row) (rows : List Row) (a : Affine) → Contains rows given → tells given.affine a ≡ true → IsCovered rows a
told_function given rows a member tell =
    let same = (tells-Decides given.affine a).0 tell in
    record {
      row = given;
      row_in = member;
      part = λ i low. ap (λ (coef : List ℤ). number_at coef i) same.0;
      tighter = same.1;
    }

-- ---- rows that imply all

pub cover_more : (rows all more : List Row) → Cover rows all → Cover (rows ++ more) (all ++ more)
cover_more rows all more cover = record {
  among = All-append (λ row. Contains (all ++ more) row) rows more
      (All-weaker (λ (row : Row). Contains all row) (λ (row : Row). Contains (all ++ more) row) (λ row member. Contains-append_left all more row member) rows cover.among)
      (all_of (λ (row : Row). Contains (all ++ more) row) more (λ row member. Contains-append_right all more row member));
  covers = All-append (λ (row : Row). IsCovered (rows ++ more) row.affine) all more
      (All-weaker (λ (row : Row). IsCovered rows row.affine) (λ (row : Row). IsCovered (rows ++ more) row.affine) (λ row covered. covered_left rows more row.affine covered) all cover.covers)
      (all_of (λ (row : Row). IsCovered (rows ++ more) row.affine) more (λ row member. covered_self (rows ++ more) row (Contains-append_right rows more row member)));
  few =
      let few = cover.few in
      let short = length-append rows more in
      let long = length-append all more in
      omega (arith, few, short, long);
}

pub cover_told : (rows all : List Row) (row : Row) → Cover rows all → IsCovered rows row.affine → Cover rows (all ++ row ∷ [])
cover_told rows all row cover told = record {
  among = All-weaker (λ (r : Row). Contains all r) (λ (r : Row). Contains (all ++ row ∷ []) r) (λ r member. Contains-append_left all (row ∷ []) r member) rows cover.among;
  covers = All-push (λ (r : Row). IsCovered rows r.affine) all row cover.covers told;
  few =
      let few = cover.few in
      let long = length-append all (row ∷ []) in
      omega (arith, few, long);
}

-- ---- what they give

pub cover_met : (rows all : List Row) (num : List ℤ) (den : ℤ) → Cover rows all → IsPointOf rows num den → PointMeetsAll num den all
cover_met rows all num den cover point = all_of (λ (row : Row). PointMeets num den row) all (λ row member.
    let covered = member_of (λ (row : Row). IsCovered rows row.affine) all row cover.covers member in
    looser_met covered.row row.affine num den covered.part covered.tighter point.positive (member_of (λ (row : Row). PointMeets num den row) rows covered.row point.meets covered.row_in))

in_all : (rows all : List Row) → Cover rows all → (row : Row) → Contains rows row → Contains all row
in_all rows all cover row member = member_of (λ (row : Row). Contains all row) rows row cover.among member

pub cover_octagons : (rows all : List Row) → Cover rows all → (IsOctagonList rows → ⊥) → IsOctagonList all → ⊥
cover_octagons rows all cover none octagons =
    none (all_of (IsOctagonRow (2 ^ 64)) rows (λ row member. member_of (IsOctagonRow (2 ^ 64)) all row octagons (in_all rows all cover row member)))

cover_occurs : (rows all : List Row) → Cover rows all → occurring rows ≤ occurring all
cover_occurs rows all cover =
    occurring_le 16 rows all (λ i low is. let found = occurs_in i rows is in occurs_of i all found.0 (in_all rows all cover found.0 found.1.0) found.1.1)

pub cover_outgrows : (rows all : List Row) → Cover rows all → MayOutgrow (occurring rows) rows → MayOutgrow (occurring all) all
cover_outgrows rows all cover large bound sized =
    let more = large bound (all_of (IsSized bound) rows (λ row member. member_of (IsSized bound) all row sized (in_all rows all cover row member))) in
    let few = cover_occurs rows all cover in
    let grown : (34 * bound) ^ (2 ^ (occurring rows + 1)) ≤ (34 * bound) ^ (2 ^ (occurring all + 1)) = power_le (34 * bound) (occurring rows + 1) (occurring all + 1) (omega (arith, few)) in
    omega (arith, more, grown)

pub cover_overflows : (rows all : List Row) → Cover rows all → MayOverflow (occurring rows) rows → MayOverflow (occurring all) all
cover_overflows rows all cover many =
    let p = after_mono (occurring rows) (length rows) (length all) cover.few in
    let q = after_more (occurring rows) (occurring all) (length all) (cover_occurs rows all cover) in
    omega (arith, p, q, many)

cover_hard : (rows all : List Row) → Cover rows all → hardness.Cover all rows
cover_hard rows all cover = record {
  among = in_all rows all cover;
  implies = λ num den positive met. cover_met rows all num den cover (record { positive = positive; meets = met });
  short = cover.few;
}

pub cover_reasonable : (rows all : List Row) (den : ℤ) → Cover rows all → IsReasonable rows den → IsReasonable all den
cover_reasonable rows all den cover (inl whole) = inl whole
cover_reasonable rows all den cover (inr (inl hard)) = inr (inl (hardness.hard_kept all rows (cover_hard rows all cover) hard))
cover_reasonable rows all den cover (inr (inr many)) = inr (inr (let few = cover.few in omega (arith, many, few)))

pub covered_opposed : (rows : List Row) (row other : Row) → IsCovered rows row.affine → IsCovered rows other.affine → AreOpposed row other → HasOpposed rows
covered_opposed rows row other first second opposed = record {
  row = first.row;
  other = second.row;
  row_in = first.row_in;
  other_in = second.row_in;
  opposed = record {
    negatives = λ i low. let is = opposed.negatives i low in let one = first.part i low in let two = second.part i low in omega (arith, ints);
    constants = let below = opposed.constants in let one = first.tighter in let two = second.tighter in omega (arith, ints);
  };
}
