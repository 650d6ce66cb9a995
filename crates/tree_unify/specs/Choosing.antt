-- Which of two leaves stands where their ranks are compared.
use Rattle.std.specs.Prelude.{Bool, List, [], ◌∷◌, Option, None, Some, ⊤}
use Rattle.linear_cons.specs.Functions.{NumbersFit, complement_of}
use Rattle.linear_cons.specs.Rows.{complement}
use Rattle.linear_cons.specs.declared.row.Row.{Row}
use Rattle.linear_cons.specs.declared.row.RowKind.{RowKind}
use Rattle.linear_cons.specs.declared.row.RowKind.TheVariants.{Always, Never, Row as Kept}
use Rattle.decision_tree.specs.Alternatives.{Alternatives, rows_of}
use Rattle.decision_tree.specs.Nodes.{node}
use Rattle.decision_tree.specs.Plans.{Plan}

-- constraints asked one by one: the first tree where all hold, else the second; a constant one is decided at once
abbrev pub all_asked : {R : Type 0} → (R → R → Bool) → List RowKind → Plan R → Plan R → Plan R
all_asked same [] this that = this
all_asked same (Always ∷ rest) this that = all_asked same rest this that
all_asked same (Never ∷ rest) this that = that
all_asked same (Kept row ∷ rest) this that = node same row (all_asked same rest this that) that

-- alternatives asked part by part: the first tree where one of them holds, else the second
abbrev pub any_asked : {R : Type 0} → (R → R → Bool) → Alternatives → Plan R → Plan R → Plan R
any_asked same [] this that = that
any_asked same (part ∷ rest) this that =
    all_asked same (part.more ∷ []) this (all_asked same (rows_of part.same) (any_asked same rest this that) that)

-- the row, where it stands alone
abbrev pub row_alone : RowKind → Option Row
row_alone Always = None
row_alone Never = None
row_alone (Kept row) = Some row

abbrev pub only_row : Alternatives → Option Row
only_row [] = None
only_row (part ∷ []) = row_alone part.more
only_row (part ∷ other ∷ rest) = None

-- the greater tree where the alternatives are met, else the other one; where they are one row alone its complement is asked
abbrev pub chosen_by : {R : Type 0} → (R → R → Bool) → Option Row → Alternatives → Plan R → Plan R → Plan R
chosen_by same (Some row) alternatives greater other = node same (complement row) other greater
chosen_by same None alternatives greater other = any_asked same alternatives greater other

abbrev pub chosen : {R : Type 0} → (R → R → Bool) → Alternatives → Plan R → Plan R → Plan R
chosen same alternatives greater other = chosen_by same (only_row alternatives) alternatives greater other

-- no number of the complement is outside 128 bits
abbrev pub ComplementFits : Option Row → Type 0
ComplementFits (Some row) = NumbersFit (complement_of row.affine)
ComplementFits None = ⊤

abbrev pub ChosenFits : Alternatives → Type 0
ChosenFits alternatives = ComplementFits (only_row alternatives)
