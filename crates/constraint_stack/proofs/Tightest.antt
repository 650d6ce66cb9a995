-- The tightest of some rows: what they give as a reason all of them give, and a row that they refute is opposed to one of them.
use Rattle.std.proofs.Common.{◌+◌, ◌*◌, ◌≤◌, ◌^◌, ℤ, inl, inr, Option, None, Some, MatchOption, List, [], ◌∷◌, ◌++◌, length, Contains, subst, sym, arith, ⊎_elim}
use Rattle.std.proofs.lemmas.Int.{ints}
use Rattle.std.proofs.lemmas.List.Elements.{Contains-push_cases}
use Rattle.linear_cons.specs.declared.row.Row.{Row}
use Rattle.linear_cons.specs.Rows.{AreOpposed}
use Rattle.linear_cons.specs.Settling.{functions_of_rows}
use Rattle.linear_cons.specs.Tightest.{IsCovered}
use Rattle.linear_cons.proofs.Dividing.{zeros_not_primitive}
use Rattle.linear_solve.proofs.Deciding.{kept_occurs, kept_point, kept_sized, no_store_of_kept}
use Rattle.linear_solve.proofs.Lists.{all_of, in_map, member_of}
use Rattle.linear_solve.proofs.Modest.{power_le}
use Rattle.linear_solve.proofs.Solved.{after_mono, after_more}
use Rattle.linear_solve.proofs.Tightening.{stand_for}
use Rattle.linear_solve.specs.Answers.{HasNoStore, MayOutgrow, MayOverflow}
use Rattle.linear_solve.specs.Elimination.{StandFor}
use Rattle.linear_solve.specs.Systems.{IsOctagonList, IsOctagonRow, IsOpposedToOne, occurring}
use Rattle.integer_point.proofs.Hardness as hardness
use Rattle.decision_tree.specs.Trails.{AreTightestOf}
use Rattle.constraint_stack.specs.declared.reason.Reason.{Reason}
use Rattle.constraint_stack.specs.declared.reason.Reason.TheVariants.{Point, Wide as TooWide, Rows}
use Rattle.constraint_stack.specs.Reasons.{IsReasonable}
use Rattle.constraint_stack.specs.Stacks.{Gives, KeepsApart}

pub held_stands : (way held : List Row) → AreTightestOf way held → StandFor way held
held_stands way held tightest = stand_for way held tightest.tightest tightest.few

pub no_octagons : (way held : List Row) → AreTightestOf way held → (IsOctagonList held → ⊥) → IsOctagonList way → ⊥
no_octagons way held tightest none octagons =
    none (all_of (IsOctagonRow (2 ^ 64)) held (λ row member. member_of (IsOctagonRow (2 ^ 64)) way row octagons (member_of (λ row. Contains way row) held row tightest.among member)))

pub outgrows : (way held : List Row) → AreTightestOf way held → MayOutgrow (occurring held) held → MayOutgrow (occurring way) way
outgrows way held tightest large bound sized =
    let stand = held_stands way held tightest in
    let more = large bound (kept_sized way held bound stand sized) in
    let few = kept_occurs way held stand in
    let grown : (34 * bound) ^ (2 ^ (occurring held + 1)) ≤ (34 * bound) ^ (2 ^ (occurring way + 1)) = power_le (34 * bound) (occurring held + 1) (occurring way + 1) (omega (arith, few)) in
    omega (arith, more, grown)

pub overflows : (way held : List Row) → AreTightestOf way held → MayOverflow (occurring held) held → MayOverflow (occurring way) way
overflows way held tightest many =
    let stand = held_stands way held tightest in
    let p = after_mono (occurring held) (length held) (length way) stand.short in
    let q = after_more (occurring held) (occurring way) (length way) (kept_occurs way held stand) in
    omega (arith, p, q, many)

-- ---- what the tightest give as a reason all give

reasonable_way : (way held : List Row) (den : ℤ) → AreTightestOf way held → IsReasonable held den → IsReasonable way den
reasonable_way way held den tightest (inl whole) = inl whole
reasonable_way way held den tightest (inr (inl hard)) =
    let stand = held_stands way held tightest in
    inr (inl (hardness.hard_kept way held (record { among = stand.among; implies = stand.implies; short = stand.short }) hard))
reasonable_way way held den tightest (inr (inr many)) = inr (inr (let short = (held_stands way held tightest).short in omega (arith, many, short)))

pub gives_way : (way held : List Row) → AreTightestOf way held → (reason : Reason) → Gives held reason → Gives way reason
gives_way way held tightest (Point num den) gives =
    (kept_point way held num den (held_stands way held tightest) gives.0, reasonable_way way held den tightest gives.1)
gives_way way held tightest (TooWide operands) gives =
    (gives.0, no_octagons way held tightest gives.1, outgrows way held tightest gives.2)
gives_way way held tightest (Rows count) (above, inl many) = (above, inl (let short = (held_stands way held tightest).short in omega (arith, many, short)))
gives_way way held tightest (Rows count) (above, inr may) = (above, inr (no_octagons way held tightest may.0, overflows way held tightest may.1))

pub found_way : (way held : List Row) → AreTightestOf way held → (found : Option Reason) → MatchOption found (HasNoStore held) (Gives held) → MatchOption found (HasNoStore way) (Gives way)
found_way way held tightest None none = no_store_of_kept way held (held_stands way held tightest) none
found_way way held tightest (Some reason) gives = gives_way way held tightest reason gives

-- ---- opposed rows

turned : (row other : Row) → AreOpposed row other → AreOpposed other row
turned row other opposed = record {
  negatives = λ i low. let is = opposed.negatives i low in omega (arith, ints);
  constants = let below = opposed.constants in omega (arith, ints);
}

-- a row is opposed to one of the rows where it is to one of the tightest
pub opposed_way : (way held : List Row) (row : Row) → AreTightestOf way held → IsOpposedToOne row held → IsOpposedToOne row way
opposed_way way held row tightest opposed = record {
  other = opposed.other;
  other_in = member_of (λ row. Contains way row) held opposed.other tightest.among opposed.other_in;
  opposed = opposed.opposed;
}

-- and only there
opposed_held : (way held : List Row) (row : Row) → AreTightestOf way held → (other : Row) → Contains way other → AreOpposed row other → IsOpposedToOne row held
opposed_held way held row tightest other member opposed =
    let covered = member_of (λ a. IsCovered held a) (functions_of_rows way) other.affine tightest.tightest.covers (in_map (λ (row : Row). row.affine) way other member) in
    record {
      other = covered.row;
      other_in = covered.row_in;
      opposed = record {
        negatives = λ i low. let is = opposed.negatives i low in let same = covered.part i low in omega (arith, ints);
        constants = let below = opposed.constants in let less = covered.tighter in omega (arith, ints);
      };
    }

-- no row is opposed to itself
never_itself : (row : Row) → AreOpposed row row → ⊥
never_itself row opposed = zeros_not_primitive row.affine.coef (λ i low. let is = opposed.negatives i low in omega (arith, ints)) row.primitive

-- behind a row that none of the tightest is opposed to no two are opposed, where none were before
pub keeps_apart : (way held : List Row) (row : Row) → AreTightestOf way held → (IsOpposedToOne row held → ⊥) → KeepsApart way (way ++ row ∷ [])
keeps_apart way held row tightest none apart two =
    ⊎_elim
    (λ one. ⊎_elim
    (λ other. apart (record { row = two.row; other = two.other; row_in = one; other_in = other; opposed = two.opposed }))
    (λ is. none (opposed_held way held row tightest two.row one (turned two.row row (subst (λ r. AreOpposed two.row r) (sym is) two.opposed))))
    (Contains-push_cases way row two.other two.other_in))
    (λ here. let opposed : AreOpposed row two.other = subst (λ r. AreOpposed r two.other) (sym here) two.opposed in ⊎_elim
    (λ other. none (opposed_held way held row tightest two.other other opposed))
    (λ is. never_itself row (subst (λ r. AreOpposed row r) (sym is) opposed))
    (Contains-push_cases way row two.other two.other_in))
    (Contains-push_cases way row two.row two.row_in)
