-- What is analysed.
use Rattle.std.specs.Prelude.{◌≡◌, ℕ, List, Option, None, Some}
use Rattle.step_meaning.specs.declared.program.Program.{Program}
use Rattle.step_meaning.specs.Syntax.{Statements, statements}
use Rattle.ctl_formula.specs.Formulas.{Ctl, af_exit}
use Rattle.formula_parse.specs.Derives.{IsFormulaOf}
use Rattle.function_top.specs.ProgramText.{HasOwnNames, IsProgramText}
use Rattle.command_words.specs.Order.{Task}

-- a program, by its names, those of `main` alone, and its body, and a formula
pub record Subject : Type 0 where
  pub names : List (List ℕ)
  pub own : List (List ℕ)
  pub body : Statements
  pub formula : Ctl

-- the names that a formula and the text of an input may use: those of `main`
abbrev pub asked_names : Subject → List (List ℕ)
asked_names subject = subject.own

-- over the names the text, where one is asked about, is this formula; where none is, it is `AF exit`, that each run ends
abbrev pub IsFormulaAsked : List (List ℕ) → Option (List ℕ) → Ctl → Type 0
IsFormulaAsked names None formula = formula ≡ af_exit
IsFormulaAsked names (Some text) formula = IsFormulaOf text names formula

-- of a text the program is analysed that it is, with the formula that is asked about
pub record IsSubject (task : Task) (text : List ℕ) (subject : Subject) : Type 0 where
  pub program : IsProgramText text subject.names subject.body
  pub own : HasOwnNames text subject.own
  pub formula : IsFormulaAsked (asked_names subject) task.formula subject.formula

-- What follows has no part in the headline.

-- a program with the names of `main`, and a formula
abbrev pub subject_of : Program → List (List ℕ) → Ctl → Subject
subject_of program own formula = record { names = program.names; own = own; body = statements program.body; formula = formula }
