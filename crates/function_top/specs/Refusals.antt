-- The lines that the command writes in place of a report.
use Rattle.std.specs.Prelude.{ℕ, List, [], ◌∷◌, ◌++◌, codes}
use Rattle.line_text.specs.Numeral.{numeral}

-- the usage line, and its text with the newline byte that ends it
abbrev pub usage_line : List ℕ
usage_line = codes "usage: function [--ctl TEXT] [--domain boxes|octagons|polyhedra] [--delay N] [--at TEXT] [--explain] [--demo N] [--fit] [--refine]"

-- the line of a fault: what has it, a program or a formula, its number and its offset
abbrev pub fault_line : List ℕ → ℕ → ℕ → List ℕ
fault_line what number offset = what ++ (codes ": " ++ (numeral number ++ (codes " at " ++ numeral offset)))

-- What follows has no part in the headline.

abbrev pub usage_text : List ℕ
usage_text = usage_line ++ 10 ∷ []

abbrev pub fault_text : List ℕ → ℕ → ℕ → List ℕ
fault_text what number offset = fault_line what number offset ++ 10 ∷ []

-- those of a program and of a formula
abbrev pub program_text : ℕ → ℕ → List ℕ
program_text number offset = fault_text (codes "program") number offset

abbrev pub formula_text : ℕ → ℕ → List ℕ
formula_text number offset = fault_text (codes "formula") number offset
