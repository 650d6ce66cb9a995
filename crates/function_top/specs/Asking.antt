-- The formula that is asked about, in normal form, or what is answered in its place; the input that is asked for; and all that is asked of a program.
use Rattle.std.specs.Prelude.{◌≡◌, ℕ, ◌≤◌, ◌⊎◌, List, Option, None, Some, length, ⊤}
use Rattle.step_meaning.specs.Outcome.{Store}
use Rattle.input_text.specs.Input.{IsInputText}
use Rattle.ctl_formula.specs.Formulas.{Ctl, normal}
use Rattle.ctl_formula.specs.Mirror.{ctl}
use Rattle.normal_form.specs.Operators.{operators}
use Rattle.normal_form.specs.Rows.{RowsAreOver}
use Rattle.command_words.specs.Order.{Task, task_of}
use Rattle.formula_parse.specs.declared.fault.FormulaFault.{FormulaFault}
use Rattle.formula_parse.specs.Derives.{IsFormulaOf}
use Rattle.formula_parse.specs.FaultOf.{IsFaultOf, IsNormalFault}
use Rattle.formula_parse.specs.Laws.{IsMemory}
use Rattle.function_top.specs.declared.question.Question.{Question}
use Rattle.function_top.specs.ProgramText.{HasOwnNames}
use Rattle.function_top.specs.Subject.{IsFormulaAsked}
use Rattle.function_top.specs.Text.{IsGraphOf}

-- over the names this is the normal form of the formula that is asked about, and has at most 256 operators
pub record IsNormalAsked (names : List (List ℕ)) (asked : Option (List ℕ)) (f : Ctl) : Type 0 where
  pub meant : Ctl
  pub is : IsFormulaAsked names asked meant
  pub normal_form : f ≡ normal meant
  pub limited : operators (normal meant) ≤ 256

-- this is the normal form of the formula that the text is
abbrev pub IsNormalRead : List (List ℕ) → List ℕ → Ctl → Type 0
IsNormalRead names text f = IsNormalAsked names (Some text) f

-- over the names the text is a formula of which this is the fault of the normal form
pub record IsFaultOfNormal (names : List (List ℕ)) (text : List ℕ) (fault : FormulaFault) : Type 0 where
  pub meant : Ctl
  pub derived : IsFormulaOf text names meant
  pub fault_of : IsNormalFault meant fault

-- this is answered in place of the normal form of the formula that the text is: a fault of the text, or one of the normal form
abbrev pub IsFaultRead : List (List ℕ) → List ℕ → FormulaFault → Type 0
IsFaultRead names text fault = IsFaultOf text names fault ⊎ IsFaultOfNormal names text fault

-- where no formula is asked about nothing but want of memory is
abbrev pub IsFaultAsked : List (List ℕ) → Option (List ℕ) → FormulaFault → Type 0
IsFaultAsked names None fault = IsMemory fault
IsFaultAsked names (Some text) fault = IsFaultRead names text fault

-- where the text of an input is given, it is that of one over the names
abbrev pub IsInputGiven : List (List ℕ) → Option (List ℕ) → Type 0
IsInputGiven names None = ⊤
IsInputGiven names (Some text) = (input : Store) × IsInputText names text input

-- it was read as this input; where none is given, as none
abbrev pub IsReadAs : List (List ℕ) → Option (List ℕ) → Option Store → Type 0
IsReadAs names None None = ⊤
IsReadAs names (Some text) (Some input) = IsInputText names text input
IsReadAs names None (Some input) = ⊥
IsReadAs names (Some text) None = ⊥

-- This is asked of the text by the task: of the program that it is, within the limits, about the normal form of a formula whose atoms are over the variables
-- of `main`, and about the input that was read, if one is asked for.
pub record IsQuestion (task : Task) (text : List ℕ) (question : Question) : Type 0 where
  pub task_is : task_of question.query ≡ task
  pub graph : IsGraphOf text question.graph
  pub own : HasOwnNames text question.own
  pub input : IsReadAs question.own task.input question.input
  pub formula : IsNormalAsked question.own task.formula (ctl question.formula)
  pub over : RowsAreOver (length question.graph.names) (ctl question.formula)
