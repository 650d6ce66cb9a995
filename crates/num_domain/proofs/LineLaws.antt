-- The rows of lines: the stores that meet them, and what each push adds.
use Rattle.std.proofs.Common.{◌≡◌, ℤ, pos, ◌≤ℤ◌, List, [], ◌∷◌, ◌++◌, All, Err, IfOk, Ok, Result, append_assoc, ap, arith, refl, sym, ◌∙◌}
use Rattle.std.proofs.Common.{suc}
use Rattle.std.proofs.lemmas.List.{append-nil}
use Rattle.std.proofs.lemmas.List.Elements.{All-append}
use Rattle.linear_cons.specs.declared.affine.Affine.{Affine}
use Rattle.linear_cons.specs.declared.row.Row.{Row}
use Rattle.linear_cons.specs.declared.row.RowKind.{RowKind}
use Rattle.linear_cons.specs.declared.row.RowKind.TheVariants.{Always, Never, Row as Kept}
use Rattle.linear_cons.specs.Functions.{value_at}
use Rattle.linear_cons.specs.Rows.{IsRowOf, Meets, MeetsAll, row_kind_of}
use Rattle.linear_cons.proofs.KindLaws.{row_kind_is, row_kind_unique}
use Rattle.linear_cons.proofs.RowLaws.{quotient_same_stores}
use Rattle.num_domain.specs.Lines.{row_list, rows_of_lines}

pub all_none : {X : Type 0} (P : X → Type 0) → All P []
all_none P k d h = absurd (omega arith)

pub all_one : {X : Type 0} (P : X → Type 0) (x : X) → P x → All P (x ∷ [])
all_one P x holds k d h = let first : k ≡ 0 = omega arith in rw first holds

-- a store where the function is at least 0 meets its row
kind_met : (a : Affine) (store : List ℤ) (kind : RowKind) → IsRowOf a kind → pos 0 ≤ℤ value_at a store → MeetsAll store (row_list kind)
kind_met a store Always is above = all_none (λ row. Meets store row)
kind_met a store Never is above = all_none (λ row. Meets store row)
kind_met a store (Kept row) is above = all_one (λ row. Meets store row) row ((quotient_same_stores a row.affine is store).1 above)

pub lines_met : (lines : List Affine) (store : List ℤ) → All (λ a. pos 0 ≤ℤ value_at a store) lines → MeetsAll store (rows_of_lines lines)
lines_met [] store all = all_none (λ row. Meets store row)
lines_met (a ∷ lines) store all =
    All-append (λ row. Meets store row) (row_list (row_kind_of a)) (rows_of_lines lines)
    (kind_met a store (row_kind_of a) (row_kind_is a) (all 0 a (omega arith)))
    (lines_met lines store (λ k d h. all (suc k) d (omega arith)))

-- ---- what is pushed

-- the rows of one function are those of its kind
pub one_line : (a : Affine) (kind : RowKind) → IsRowOf a kind → row_list kind ≡ rows_of_lines (a ∷ [])
one_line a kind normal = ap row_list (row_kind_unique a kind normal) ∙ sym (append-nil (row_list (row_kind_of a)))

pub no_row : (kind : RowKind) → ((row : Row) → kind ≡ Kept row → ⊥) → row_list kind ≡ []
no_row Always none = refl
no_row Never none = refl
no_row (Kept row) none = absurd (none row refl)

pub rows_of_lines-append : (lines more : List Affine) → rows_of_lines (lines ++ more) ≡ rows_of_lines lines ++ rows_of_lines more
rows_of_lines-append [] more = refl
rows_of_lines-append (a ∷ lines) more =
    rw (rows_of_lines-append lines more) (sym (append_assoc (row_list (row_kind_of a)) (rows_of_lines lines) (rows_of_lines more)))

pub if_ok_more : {T E : Type 0} (r : Result T E) (P Q : T → Type 0) → ((x : T) → P x → Q x) → IfOk r P → IfOk r Q
if_ok_more (Ok x) P Q more holds = more x holds
if_ok_more (Err e) P Q more holds = holds
