-- Rows of a condition, one by one.
use Rattle.std.proofs.Common.{◌≡◌, ℕ, zero, suc, ◌<◌, List, [], ◌∷◌, length, get_or, All, sym, ap, ◌∙◌, subst, arith, ℤ, pos, ◌≤ℤ◌}
use Rattle.std.proofs.lemmas.List.{get_or-map, length-map}
use Rattle.std.specs.Prelude.{◌↔◌}
use Rattle.std.proofs.lemmas.List.Elements.{All-map}
use Rattle.linear_cons.specs.Functions.{value_at}
use Rattle.linear_cons.specs.Rows.{MeetsAll}
use Rattle.line_text.specs.Spells.{MeetsCondition}
use Rattle.linear_cons.specs.declared.affine.Affine.{Affine}
use Rattle.linear_cons.specs.declared.row.Row.{Row}
use Rattle.line_text.specs.LineText.{functions_of}
use Rattle.line_text.specs.Names.{IsOver}

-- each row is over the names where all rows are
pub row_over :
    (names : List (List ℕ)) (rows : List Row) (row : Row) (i : ℕ) → All (IsOver names) (functions_of rows) → row ≡ get_or rows i row
    → i < length rows → IsOver names row.affine
row_over names rows row i all is low =
    let there : get_or (functions_of rows) i row.affine ≡ row.affine = get_or-map (λ (r : Row). r.affine) rows i row row.affine low
    ∙ ap (λ (r : Row). r.affine) (sym is) in
    let long = length-map rows (λ (r : Row). r.affine) in
    subst (IsOver names) there (all i row.affine (omega arith))

-- so is a row behind the first
pub over_at :
    (names : List (List ℕ)) (rows more : List Row) (first row : Row) (i : ℕ) → All (IsOver names) (functions_of rows) → rows ≡ first ∷ more
    → row ≡ get_or more i row → i < length more → IsOver names row.affine
over_at names rows more first row i all split is low =
    let P : List Row → Type 0 = λ rs. All (IsOver names) (functions_of rs) in
    row_over names (first ∷ more) row (suc i) (subst P split all) is (omega arith)

-- all rows are over the names where each is
pub rows_over :
    (names : List (List ℕ)) (rows : List Row) → ((k : ℕ) (row : Row) → k < length rows → IsOver names (get_or rows k row).affine)
    → All (IsOver names) (functions_of rows)
rows_over names [] each k d low = absurd (omega arith)
rows_over names (row ∷ rows) each zero d low = each 0 row (omega arith)
rows_over names (row ∷ rows) each (suc k) d low = rows_over names rows (λ i other h. each (suc i) other (omega arith)) k d (omega arith)

meets_rows : (store : List ℤ) (rows : List Row) → MeetsCondition store (functions_of rows) → MeetsAll store rows
meets_rows store rows meets k d low =
    let long = length-map rows (λ (r : Row). r.affine) in
    let there : get_or (functions_of rows) k d.affine ≡ (get_or rows k d).affine = get_or-map (λ (r : Row). r.affine) rows k d d.affine
    low in
    let P : Affine → Type 0 = λ a. pos 0 ≤ℤ value_at a store in
    subst P there (meets k d.affine (omega arith))

pub met_as_condition : (store : List ℤ) (rows : List Row) → MeetsAll store rows ↔ MeetsCondition store (functions_of rows)
met_as_condition store rows =
    (λ meets. All-map (λ a. pos 0 ≤ℤ value_at a store) (λ (r : Row). r.affine) rows meets, meets_rows store rows)
