-- The spreading of a test for an outcome: conjunctions of rows, one of which each store meets at which the test may have that outcome.
use Rattle.std.specs.Prelude.{not, ℤ, pos, ◌-ℤ◌, Bool, true, false, Option, None, Some, List, [], ◌∷◌, ◌++◌, map, if◌then◌else◌}
use Rattle.step_meaning.specs.declared.expression.Op2.{Op2}
use Rattle.step_meaning.specs.declared.expression.Op2.TheVariants.{Add, Sub, Mul, Less, LessEqual, Greater, GreaterEqual, Equal, NotEqual}
use Rattle.step_meaning.specs.declared.expression.Op2.TheVariants.{And, Or}
use Rattle.step_meaning.specs.Syntax.{Expression, free, truth, negation, pair, number, variable, range, negative, divided}
use Rattle.linear_cons.specs.declared.affine.Affine.{Affine}
use Rattle.linear_cons.specs.declared.bounds.Bounds.{Bounds}
use Rattle.linear_cons.specs.declared.bounds.Linear.{Linear}
use Rattle.linear_cons.specs.declared.row.Row.{Row}
use Rattle.linear_cons.specs.declared.row.RowKind.{RowKind}
use Rattle.linear_cons.specs.declared.row.RowKind.TheVariants.{Always, Never, Row as Kept}
use Rattle.linear_cons.specs.Functions.{constant_of, sum_of, difference_of}
use Rattle.linear_cons.specs.Rows.{row_kind_of}
use Rattle.linear_cons.specs.Ends.{ends_from}
use Rattle.linear_forms.specs.Linearising.{linear_of, numbers_fit}

-- what a row of a comparison says: the one side is at least the other, or greater where the row is strict
pub record Claim : Type 0 where
  pub greater : Linear
  pub smaller : Linear
  pub is_strict : Bool

abbrev pub at_least : Linear → Linear → Claim
at_least x y = record { greater = x; smaller = y; is_strict = false }

abbrev pub above : Linear → Linear → Claim
above x y = record { greater = x; smaller = y; is_strict = true }

-- the conjunctions of claims that a comparison of x with y is
abbrev pub claims : Op2 → Linear → Linear → List (List Claim)
claims Less x y = (above y x ∷ []) ∷ []
claims LessEqual x y = (at_least y x ∷ []) ∷ []
claims Greater x y = (above x y ∷ []) ∷ []
claims GreaterEqual x y = (at_least x y ∷ []) ∷ []
claims Equal x y = (at_least x y ∷ at_least y x ∷ []) ∷ []
claims NotEqual x y = (above x y ∷ []) ∷ (above y x ∷ []) ∷ []
claims Add x y = []
claims Sub x y = []
claims Mul x y = []
claims And x y = []
claims Or x y = []

-- What follows has no part in the headline.

-- the comparison that holds exactly where this one doesn't
abbrev pub opposite : Op2 → Op2
opposite Less = GreaterEqual
opposite LessEqual = Greater
opposite Greater = LessEqual
opposite GreaterEqual = Less
opposite Equal = NotEqual
opposite NotEqual = Equal
opposite Add = Add
opposite Sub = Sub
opposite Mul = Mul
opposite And = And
opposite Or = Or

abbrev pub comparison_for : Bool → Op2 → Op2
comparison_for outcome op = if outcome then op else opposite op

-- the function, where its numbers fit
abbrev pub fitting : Affine → Option Affine
fitting a = if numbers_fit a then Some a else None

-- 1 less where the claim is strict
abbrev pub less_one : Bool → Option Affine → Option Affine
less_one is_strict None = None
less_one true (Some a) = fitting (difference_of a (constant_of (pos 1)))
less_one false (Some a) = Some a

-- the most favourable end added
abbrev pub favoured : Option ℤ → Option Affine → Option Affine
favoured None a = None
favoured (Some e) None = None
favoured (Some e) (Some a) = fitting (sum_of a (constant_of e))

-- the function that is at least 0 where the claim holds at its most favourable end; none where a number doesn't fit
abbrev pub constraint : Claim → Option Affine
constraint claim =
    favoured (ends_from (λ high low. high -ℤ low) claim.greater.hi claim.smaller.lo)
    (less_one claim.is_strict (fitting (difference_of claim.greater.affine claim.smaller.affine)))

-- a constraint before the rows of a conjunction: one that always holds is left out, one that never does drops the conjunction
abbrev pub before : RowKind → Option (List Row) → Option (List Row)
before Always rows = rows
before Never rows = None
before (Kept row) None = None
before (Kept row) (Some rows) = Some (row ∷ rows)

abbrev pub with_constraint : Option Affine → Option (List Row) → Option (List Row)
with_constraint None rows = rows
with_constraint (Some a) rows = before (row_kind_of a) rows

-- the rows of a conjunction of claims; none where it is dropped
abbrev pub rows_of : List Claim → Option (List Row)
rows_of [] = Some []
rows_of (claim ∷ more) = with_constraint (constraint claim) (rows_of more)

-- the conjunctions that aren't dropped
abbrev pub kept_before : Option (List Row) → List (List Row) → List (List Row)
kept_before None more = more
kept_before (Some rows) more = rows ∷ more

abbrev pub all_rows_of : List (List Claim) → List (List Row)
all_rows_of [] = []
all_rows_of (conjunction ∷ more) = kept_before (rows_of conjunction) (all_rows_of more)

-- each of the first with each of the second
abbrev pub pairs : List (List Row) → List (List Row) → List (List Row)
pairs [] ys = []
pairs (rows ∷ xs) ys = map (λ other. rows ++ other) ys ++ pairs xs ys

-- `&&` holds and `||` fails where both operands do so
abbrev pub spread_by : Op2 → Bool → List (List Row) → List (List Row) → List (List Row) → List (List Row)
spread_by And true xs ys compared = pairs xs ys
spread_by And false xs ys compared = xs ++ ys
spread_by Or true xs ys compared = xs ++ ys
spread_by Or false xs ys compared = pairs xs ys
spread_by Add outcome xs ys compared = compared
spread_by Sub outcome xs ys compared = compared
spread_by Mul outcome xs ys compared = compared
spread_by Less outcome xs ys compared = compared
spread_by LessEqual outcome xs ys compared = compared
spread_by Greater outcome xs ys compared = compared
spread_by GreaterEqual outcome xs ys compared = compared
spread_by Equal outcome xs ys compared = compared
spread_by NotEqual outcome xs ys compared = compared

-- the conjunctions of a test for an outcome
abbrev pub spread_of : Bounds → Expression → Bool → List (List Row)
spread_of bounds free outcome = [] ∷ []
spread_of bounds (truth true) outcome = if outcome then [] ∷ [] else []
spread_of bounds (truth false) outcome = if outcome then [] else [] ∷ []
spread_of bounds (negation c) outcome = spread_of bounds c (not outcome)
spread_of bounds (pair op l r) outcome =
    spread_by op outcome (spread_of bounds l outcome) (spread_of bounds r outcome)
    (all_rows_of (claims (comparison_for outcome op) (linear_of bounds l) (linear_of bounds r)))
spread_of bounds (number z) outcome = []
spread_of bounds (variable x) outcome = []
spread_of bounds (range lo hi) outcome = []
spread_of bounds (negative e) outcome = []
spread_of bounds (divided division e b) outcome = []
