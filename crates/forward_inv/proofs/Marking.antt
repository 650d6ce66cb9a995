-- Of rows those that have their mark, one more at a time.
use Rattle.std.proofs.Common.{◌≡◌, ℕ, zero, suc, ◌+◌, ◌<◌, Bool, true, false, List, [], ◌∷◌, ◌++◌, length, get_or, slice_get, slice_index_or, Some, add-one, refl, sym, ap, arith}
use Rattle.std.proofs.lemmas.List.{append-nil}
use Rattle.linear_cons.specs.declared.row.Row.{Row}
use Rattle.forward_inv.specs.Sets.{marked_below}

pub marked_none : (rows : List Row) (marks : List Bool) → [] ≡ marked_below 0 rows marks
unfolding marked_below
marked_none rows marks = refl

there : (rows : List Row) (i : ℕ) (row : Row) → i < length rows → row ≡ get_or rows i row → slice_get rows i ≡ Some row
there [] i row low is = absurd (omega (arith, low))
there (first ∷ rows) zero row low is = ap (λ r. Some r) (sym is)
there (first ∷ rows) (suc i) row low is = there rows i row (omega (arith, low)) is

pub one_marked : (i : ℕ) (rows : List Row) (marks : List Bool) (row : Row) → i < length rows → row ≡ get_or rows i row → slice_index_or marks i false ≡ true
    → marked_below i rows marks ++ row ∷ [] ≡ marked_below (i + 1) rows marks
unfolding marked_below
one_marked i rows marks row low is mark = rw (add-one, mark, there rows i row low is) refl

pub one_unmarked : (i : ℕ) (rows : List Row) (marks : List Bool) → slice_index_or marks i false ≡ false
    → marked_below i rows marks ≡ marked_below (i + 1) rows marks
unfolding marked_below
one_unmarked i rows marks mark = rw (add-one, mark) (sym (append-nil (marked_below i rows marks)))
