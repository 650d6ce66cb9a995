-- The text of a formula: a row as in a report, its truth where it is constant, and parentheses around what `&&` or `||` joins.
use Rattle.std.specs.Prelude.{ℕ, Bool, true, false, List, ◌++◌, codes}
use Rattle.line_text.specs.LineText.{row_text}
use Rattle.line_text.specs.Names.{IsOver}
use Rattle.ctl_formula.specs.Formulas.{Ctl, truth, falsity, exit, not_exit, always, never, least, negation, both, either, next, until, weak}
use Rattle.ctl_formula.specs.Rows.{EachRow}

-- what is said of all runs begins with `A`, what is said of some run with `E`
abbrev pub next_text : Bool → List ℕ
next_text true = codes "AX "
next_text false = codes "EX "

abbrev pub bracket_text : Bool → List ℕ
bracket_text true = codes "A["
bracket_text false = codes "E["

abbrev pub formula_text : List (List ℕ) → Ctl → List ℕ
formula_text names truth = codes "true"
formula_text names falsity = codes "false"
formula_text names exit = codes "exit"
formula_text names not_exit = codes "!exit"
formula_text names always = codes "true"
formula_text names never = codes "false"
formula_text names (least a) = row_text names a
formula_text names (negation f) = codes "!" ++ formula_text names f
formula_text names (both f g) = codes "(" ++ (formula_text names f ++ (codes " && " ++ (formula_text names g ++ codes ")")))
formula_text names (either f g) = codes "(" ++ (formula_text names f ++ (codes " || " ++ (formula_text names g ++ codes ")")))
formula_text names (next all f) = next_text all ++ formula_text names f
formula_text names (until all f g) = bracket_text all ++ (formula_text names f ++ (codes " U " ++ (formula_text names g ++ codes "]")))
formula_text names (weak all f g) = bracket_text all ++ (formula_text names f ++ (codes " W " ++ (formula_text names g ++ codes "]")))

-- the variables of each row have names
abbrev pub RowsAreNamed : List (List ℕ) → Ctl → Type 0
RowsAreNamed names f = EachRow (λ a. IsOver names a) f
