-- What holds of each row that a test spreads to. A constraint whose numbers don't fit 128 bits is left out, so a row is the quotient of a function that fits.
use Rattle.std.specs.Bool.{⊤, Decides}
use Rattle.std.proofs.Common.{ℤ, pos, ◌-ℤ◌, Bool, true, false, not, cond, List, [], ◌∷◌, Option, None, Some, refl}
use Rattle.step_meaning.specs.declared.expression.Op2.{Op2}
use Rattle.step_meaning.specs.declared.expression.Op2.TheVariants.{Or, And}
use Rattle.step_meaning.specs.Syntax.{Expression, number, variable, free, range, truth, negative, negation, pair, divided}
use Rattle.linear_cons.specs.Ends.{ends_from}
use Rattle.linear_cons.specs.Functions.{IsQuotient, NumbersFit, constant_of, difference_of, sum_of}
use Rattle.linear_cons.specs.Rows.{IsRowOf, row_kind_of}
use Rattle.linear_cons.specs.declared.affine.Affine.{Affine}
use Rattle.linear_cons.specs.declared.bounds.Bounds.{Bounds}
use Rattle.linear_cons.specs.declared.row.Row.{Row}
use Rattle.linear_cons.specs.declared.row.RowKind.{RowKind}
use Rattle.linear_cons.specs.declared.row.RowKind.TheVariants.{Always, Never, Row as Kept}
use Rattle.linear_cons.proofs.RowKinds.{row_kind_is}
use Rattle.linear_forms.specs.Duality.{EachOf}
use Rattle.linear_forms.specs.Linearising.{linear_of, numbers_fit}
use Rattle.linear_forms.specs.Spreading.{Claim, all_rows_of, before, claims, comparison_for, constraint, favoured, fitting, kept_before, less_one, pairs, rows_of, spread_by, spread_of, with_constraint}
use Rattle.linear_forms.proofs.DualLists.{each_both, each_pair}
use Rattle.linear_forms.proofs.Known.{numbers_fit_decides}

-- ---- constraints

abbrev IsFoundFit : Option Affine → Type 0
IsFoundFit None = ⊤
IsFoundFit (Some a) = NumbersFit a

fits_found : (t : Bool) (a : Affine) → Decides t (NumbersFit a) → IsFoundFit (cond t (Some a) None)
fits_found true a decides = decides.0 refl
fits_found false a decides = tt

fitting_fits : (a : Affine) → IsFoundFit (fitting a)
fitting_fits a = fits_found (numbers_fit a) a (numbers_fit_decides a)

less_fits : (t : Bool) (found : Option Affine) → IsFoundFit found → IsFoundFit (less_one t found)
less_fits t None own = tt
less_fits true (Some a) own = fitting_fits (difference_of a (constant_of (pos 1)))
less_fits false (Some a) own = own

favoured_fits : (end : Option ℤ) (found : Option Affine) → IsFoundFit (favoured end found)
favoured_fits None found = tt
favoured_fits (Some z) None = tt
favoured_fits (Some z) (Some a) = fitting_fits (sum_of a (constant_of z))

constraint_fits : (claim : Claim) → IsFoundFit (constraint claim)
constraint_fits claim =
    favoured_fits (ends_from (λ high low. high -ℤ low) claim.greater.hi claim.smaller.lo)
    (less_one claim.is_strict (fitting (difference_of claim.greater.affine claim.smaller.affine)))

-- ---- rows

abbrev OfKind : (Row → Type 0) → RowKind → Type 0
OfKind P Always = ⊤
OfKind P Never = ⊤
OfKind P (Kept row) = P row

abbrev OfRows : (Row → Type 0) → Option (List Row) → Type 0
OfRows P None = ⊤
OfRows P (Some rows) = EachOf P rows

abbrev OfLists : (Row → Type 0) → List (List Row) → Type 0
OfLists P lists = EachOf (EachOf P) lists

module _ (P : Row → Type 0) (by_quotient : (a : Affine) (row : Row) → IsQuotient a row.affine → NumbersFit a → P row) where
  kind_each : (a : Affine) (kind : RowKind) → IsRowOf a kind → NumbersFit a → OfKind P kind
  kind_each a Always is fit = tt
  kind_each a Never is fit = tt
  kind_each a (Kept row) is fit = by_quotient a row is fit

  before_each : (kind : RowKind) (rows : Option (List Row)) → OfKind P kind → OfRows P rows → OfRows P (before kind rows)
  before_each Always rows here there = there
  before_each Never rows here there = tt
  before_each (Kept row) None here there = tt
  before_each (Kept row) (Some rows) here there = (here, there)

  with_each : (found : Option Affine) (rows : Option (List Row)) → IsFoundFit found → OfRows P rows → OfRows P (with_constraint found rows)
  with_each None rows here there = there
  with_each (Some a) rows here there = before_each (row_kind_of a) rows (kind_each a (row_kind_of a) (row_kind_is a) here) there

  rows_each : (list : List Claim) → OfRows P (rows_of list)
  rows_each [] = tt
  rows_each (claim ∷ more) = with_each (constraint claim) (rows_of more) (constraint_fits claim) (rows_each more)

  kept_each : (rows : Option (List Row)) (more : List (List Row)) → OfRows P rows → OfLists P more → OfLists P (kept_before rows more)
  kept_each None more here there = there
  kept_each (Some rows) more here there = (here, there)

  all_each : (list : List (List Claim)) → OfLists P (all_rows_of list)
  all_each [] = tt
  all_each (conjunction ∷ more) = kept_each (rows_of conjunction) (all_rows_of more) (rows_each conjunction) (all_each more)

  pairs_each : (xs ys : List (List Row)) → OfLists P xs → OfLists P ys → OfLists P (pairs xs ys)
  pairs_each xs ys first second = each_pair (EachOf P) (EachOf P) (EachOf P) (λ rows other here there. each_both P rows other here there) xs ys first second

  by_each : (op : Op2) (outcome : Bool) (xs ys compared : List (List Row)) → OfLists P xs → OfLists P ys → OfLists P compared
      → OfLists P (spread_by op outcome xs ys compared)
  by_each And true xs ys compared first second third = pairs_each xs ys first second
  by_each And false xs ys compared first second third = each_both (EachOf P) xs ys first second
  by_each Or true xs ys compared first second third = each_both (EachOf P) xs ys first second
  by_each Or false xs ys compared first second third = pairs_each xs ys first second
  by_each _ outcome xs ys compared first second third = third

  pub spread_each : (bounds : Bounds) (c : Expression) (t : Bool) → EachOf (EachOf P) (spread_of bounds c t)
  spread_each bounds free t = (tt, tt)
  spread_each bounds (truth true) true = (tt, tt)
  spread_each bounds (truth true) false = tt
  spread_each bounds (truth false) true = tt
  spread_each bounds (truth false) false = (tt, tt)
  spread_each bounds (negation c) t = spread_each bounds c (not t)
  spread_each bounds (pair op l r) t =
      by_each op t (spread_of bounds l t) (spread_of bounds r t) (all_rows_of (claims (comparison_for t op) (linear_of bounds l) (linear_of bounds r)))
      (spread_each bounds l t) (spread_each bounds r t) (all_each (claims (comparison_for t op) (linear_of bounds l) (linear_of bounds r)))
  spread_each bounds (number z) t = tt
  spread_each bounds (variable x) t = tt
  spread_each bounds (range lo hi) t = tt
  spread_each bounds (negative e) t = tt
  spread_each bounds (divided division e b) t = tt
