-- Variables below the number of the names have names.
use Rattle.std.specs.Prelude.{ℕ, ◌≤◌, List, length}
use Rattle.ctl_formula.specs.Formulas.{Ctl, truth, falsity, exit, not_exit, always, never, least, negation, both, either, next, until, weak}
use Rattle.normal_form.specs.Rows.{RowsAreOver}
use Rattle.formula_text.specs.FormulaText.{RowsAreNamed}

pub rows_are_named : (names : List (List ℕ)) → length names ≤ 16 → (f : Ctl) → RowsAreOver (length names) f → RowsAreNamed names f
rows_are_named names few truth h = tt
rows_are_named names few falsity h = tt
rows_are_named names few exit h = tt
rows_are_named names few not_exit h = tt
rows_are_named names few always h = tt
rows_are_named names few never h = tt
rows_are_named names few (least a) h = record { few = few; places = h.places; past = h.past }
rows_are_named names few (negation f) h = rows_are_named names few f h
rows_are_named names few (both f g) h = (rows_are_named names few f h.0, rows_are_named names few g h.1)
rows_are_named names few (either f g) h = (rows_are_named names few f h.0, rows_are_named names few g h.1)
rows_are_named names few (next all f) h = rows_are_named names few f h
rows_are_named names few (until all f g) h = (rows_are_named names few f h.0, rows_are_named names few g h.1)
rows_are_named names few (weak all f g) h = (rows_are_named names few f h.0, rows_are_named names few g h.1)
