-- Valid units: what the type `Unit` promises of its functions, its names and its body.
use Rattle.std.specs.Prelude.{◌≡◌, ◌≢◌, ℕ, ◌≤◌, List, length, All, AllPairs}
use Rattle.call_meaning.specs.declared.statement.UnitBlock.{UnitBlock}
use Rattle.call_meaning.specs.declared.statement.Func.{Func}
use Rattle.call_meaning.specs.Reads.{IsTidy}
use Rattle.call_meaning.specs.Sorts.{AreSorted, HaveNoValue}
use Rattle.call_meaning.specs.Tables.{commands, table_of, whole_names}
use Rattle.call_meaning.specs.Validity.{AreRoutines}

-- Each function has a name; the whole program has at most 15 names, no two of them equal, which the names of the parts alone don't imply; the bodies are of
-- the right sorts over their own names; and the routines are in order, and set each variable before they read it.
pub record IsUnit (func_names : List (List ℕ)) (funcs : List Func) (names : List (List ℕ)) (body : UnitBlock) : Type 0 where
  pub named : length func_names ≡ length funcs
  pub few : length (whole_names func_names funcs names) ≤ 15
  pub distinct : AllPairs (λ a b. a ≢ b) (whole_names func_names funcs names)
  pub sorted : All (λ f. AreSorted (length f.names) (commands f.body)) funcs
  pub main_sorted : AreSorted (length names) (commands body)
  pub valueless : HaveNoValue (commands body)
  pub routines : AreRoutines (table_of funcs names body) (length funcs)
  pub tidy : IsTidy (table_of funcs names body) (length funcs)
