-- A row that a test asks for stands in each conjunction of the test's spreading, whatever the bounds.
use Rattle.std.proofs.Common.{◌≡◌, inl, inr, Bool, true, false, Option, Some, None, List, [], ◌∷◌, ◌++◌, map, refl, sym, ap, subst, ◌∙◌}
use Rattle.linear_cons.specs.declared.bounds.Bounds.{Bounds}
use Rattle.linear_cons.specs.declared.row.Row.{Row}
use Rattle.linear_cons.specs.declared.row.RowKind.{RowKind}
use Rattle.linear_cons.specs.declared.row.RowKind.TheVariants.{Always, Never, Row as Kept}
use Rattle.linear_cons.specs.Rows.{IsRowOf, row_kind_of}
use Rattle.linear_cons.proofs.KindLaws.{row_kind_unique}
use Rattle.linear_cons.specs.Ends.{exactly}
use Rattle.linear_forms.specs.Linearising.{linear_of}
use Rattle.step_meaning.specs.Countdown.{form_of, Asks, AsksByComparing}
use Rattle.linear_forms.specs.Spreading.{Claim, all_rows_of, before, claims, kept_before, pairs, rows_of, spread_of, with_constraint}
use Rattle.linear_forms.proofs.Exactness.{linear_exact}
use Rattle.linear_forms.proofs.SpreadExactness.{claimed, exact_constraint}
use Rattle.step_meaning.specs.declared.expression.Op2.{Op2}
use Rattle.step_meaning.specs.declared.expression.Op2.TheVariants.{Less, LessEqual, Greater, GreaterEqual, Equal, NotEqual, And}
use Rattle.step_meaning.specs.Syntax.{Expression, pair}
use Rattle.step_meaning.specs.AffineExpressions.{ComparisonFits, FunctionFits, IsAffine, less}
use Rattle.count_down.specs.Asking.{EachHas, Has}

-- ---- conjunctions

has_first : (row : Row) (rows others : List Row) → Has row rows → Has row (rows ++ others)
has_first row [] others h = absurd h
has_first row (other ∷ more) others (inl same) = inl same
has_first row (other ∷ more) others (inr later) = inr (has_first row more others later)

has_second : (row : Row) (rows others : List Row) → Has row others → Has row (rows ++ others)
has_second row [] others h = h
has_second row (other ∷ more) others h = inr (has_second row more others h)

each_both : (row : Row) (xs ys : List (List Row)) → EachHas row xs → EachHas row ys → EachHas row (xs ++ ys)
each_both row [] ys h k = k
each_both row (rows ∷ more) ys h k = (h.0, each_both row more ys h.1 k)

all_first : (row : Row) (rows : List Row) (ys : List (List Row)) → Has row rows → EachHas row (map (λ other. rows ++ other) ys)
all_first row rows [] h = tt
all_first row rows (other ∷ more) h = (has_first row rows other h, all_first row rows more h)

all_second : (row : Row) (rows : List Row) (ys : List (List Row)) → EachHas row ys → EachHas row (map (λ other. rows ++ other) ys)
all_second row rows [] h = tt
all_second row rows (other ∷ more) h = (has_second row rows other h.0, all_second row rows more h.1)

pairs_first : (row : Row) (xs ys : List (List Row)) → EachHas row xs → EachHas row (pairs xs ys)
pairs_first row [] ys h = tt
pairs_first row (rows ∷ more) ys h = each_both row (map (λ other. rows ++ other) ys) (pairs more ys) (all_first row rows ys h.0) (pairs_first row more ys h.1)

pairs_second : (row : Row) (xs ys : List (List Row)) → EachHas row ys → EachHas row (pairs xs ys)
pairs_second row [] ys h = tt
pairs_second row (rows ∷ more) ys h = each_both row (map (λ other. rows ++ other) ys) (pairs more ys) (all_second row rows ys h) (pairs_second row more ys h)

-- ---- comparisons

first_has : (kind : RowKind) (row : Row) (rest : Option (List Row)) → Kept row ≡ kind → EachHas row (kept_before (before kind rest) [])
first_has kind row rest is = subst (λ k. EachHas row (kept_before (before k rest) [])) is (behind rest)
  where
    behind : (rest : Option (List Row)) → EachHas row (kept_before (before (Kept row) rest) [])
    behind None = tt
    behind (Some rows) = (inl refl, tt)

second_has : (kind : RowKind) (row : Row) (rows : List Row) → Has row rows → EachHas row (kept_before (before kind (Some rows)) [])
second_has Always row rows h = (h, tt)
second_has Never row rows h = tt
second_has (Kept other) row rows h = (inr h, tt)

abbrev claim : Bool → Expression → Expression → Claim
claim strict l r = record { greater = exactly (form_of l); smaller = exactly (form_of r); is_strict = strict }

single_has : (strict : Bool) (l r : Expression) (row : Row) → FunctionFits (less l r) → FunctionFits (claimed strict l r) → IsRowOf (form_of (claimed strict l r)) (Kept row)
    → EachHas row (all_rows_of ((claim strict l r ∷ []) ∷ []))
single_has strict l r row fit own is =
    subst (EachHas row) (sym (ap (λ f. kept_before (with_constraint f (Some [])) []) (exact_constraint strict l r fit own)))
    (first_has (row_kind_of (form_of (claimed strict l r))) row (Some []) (row_kind_unique (form_of (claimed strict l r)) (Kept row) is))

-- `==` with the row of its first or of its second difference
equal_first : (l r : Expression) (row : Row) → ComparisonFits l r → IsRowOf (form_of (less l r)) (Kept row) → EachHas row (all_rows_of ((claim false l r ∷ claim false r l ∷ []) ∷ []))
equal_first l r row fit is =
    subst (EachHas row) (sym (ap (λ f. kept_before (with_constraint f (rows_of (claim false r l ∷ []))) []) (exact_constraint false l r fit.difference fit.difference)))
    (first_has (row_kind_of (form_of (less l r))) row (rows_of (claim false r l ∷ [])) (row_kind_unique (form_of (less l r)) (Kept row) is))

equal_second : (l r : Expression) (row : Row) → ComparisonFits l r → IsRowOf (form_of (less r l)) (Kept row) → EachHas row (all_rows_of ((claim false l r ∷ claim false r l ∷ []) ∷ []))
equal_second l r row fit is =
    subst (λ f. EachHas row (kept_before (with_constraint f (rows_of (claim false r l ∷ []))) [])) (sym (exact_constraint false l r fit.difference fit.difference))
    (subst (λ rest. EachHas row (kept_before (before (row_kind_of (form_of (less l r))) rest) []))
    (sym (ap (λ f. with_constraint f (Some [])) (exact_constraint false r l fit.opposite fit.opposite) ∙ ap (λ k. before k (Some [])) (sym (row_kind_unique (form_of (less r l)) (Kept row) is))))
    (second_has (row_kind_of (form_of (less l r))) row (row ∷ []) (inl refl)))

compared_has : (op : Op2) (l r : Expression) (row : Row) → ComparisonFits l r → AsksByComparing op l r row → EachHas row (all_rows_of (claims op (exactly (form_of l)) (exactly (form_of r))))
compared_has GreaterEqual l r row fit asks = single_has false l r row fit.difference fit.difference asks
compared_has Greater l r row fit asks = single_has true l r row fit.difference fit.strict_difference asks
compared_has LessEqual l r row fit asks = single_has false r l row fit.opposite fit.opposite asks
compared_has Less l r row fit asks = single_has true r l row fit.opposite fit.strict_opposite asks
compared_has Equal l r row fit (inl asks) = equal_first l r row fit asks
compared_has Equal l r row fit (inr asks) = equal_second l r row fit asks
compared_has other l r row fit asks = absurd asks

module _ (bounds : Bounds) (row : Row) where
  affine_has : (op : Op2) (l r : Expression) → IsAffine l → IsAffine r → ComparisonFits l r → AsksByComparing op l r row → EachHas row (all_rows_of (claims op (linear_of bounds l) (linear_of bounds r)))
  affine_has op l r left right fit asks =
      rw (linear_exact bounds l left fit.left, linear_exact bounds r right fit.right) (compared_has op l r row fit asks)

  pub each_has : (test : Expression) → Asks test row → EachHas row (spread_of bounds test true)
  each_has (pair And l r) (inl asks) = pairs_first row (spread_of bounds l true) (spread_of bounds r true) (each_has l asks)
  each_has (pair And l r) (inr asks) = pairs_second row (spread_of bounds l true) (spread_of bounds r true) (each_has r asks)
  each_has (pair Less l r) asks = affine_has Less l r asks.0 asks.1 asks.2 asks.3
  each_has (pair LessEqual l r) asks = affine_has LessEqual l r asks.0 asks.1 asks.2 asks.3
  each_has (pair Greater l r) asks = affine_has Greater l r asks.0 asks.1 asks.2 asks.3
  each_has (pair GreaterEqual l r) asks = affine_has GreaterEqual l r asks.0 asks.1 asks.2 asks.3
  each_has (pair Equal l r) asks = affine_has Equal l r asks.0 asks.1 asks.2 asks.3
  each_has (pair NotEqual l r) asks = absurd asks.3
  each_has other asks = absurd asks
