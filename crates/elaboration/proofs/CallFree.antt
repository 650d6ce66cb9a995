-- A body without calls is as valid as it was.
use Rattle.std.proofs.Common.{ℕ, Bool, true}
use Rattle.step_meaning.specs.Valid.{IsBody, IsStatement, IsInside, IsInsideStatement}
use Rattle.call_meaning.specs.Units.{Command, Commands, assign, call, skip, return, break, continue, if_else, while_loop, do_while, empty, sequence, Table}
use Rattle.call_meaning.specs.Sorts.{IsSorted, AreSorted}
use Rattle.call_meaning.specs.Validity.{Stands, AllStand}
use Rattle.elaboration.specs.Elaborates.{plain, plain_command}

mutual
  pub plain_sorted : (vars : ℕ) (body : Commands) → AreSorted vars body → IsBody vars (plain body)
  plain_sorted vars empty all = tt
  plain_sorted vars (sequence first more) all = (command_sorted vars first all.0, plain_sorted vars more all.1)

  command_sorted : (vars : ℕ) (first : Command) → IsSorted vars first → IsStatement vars (plain_command first)
  command_sorted vars (assign x e) is = is
  command_sorted vars (call target f arguments) is = tt
  command_sorted vars skip is = tt
  command_sorted vars (return value) is = tt
  command_sorted vars break is = tt
  command_sorted vars continue is = tt
  command_sorted vars (if_else c one other) is = (is.0, plain_sorted vars one is.1, plain_sorted vars other is.2)
  command_sorted vars (while_loop c body step) is = (is.0, plain_sorted vars body is.1, plain_sorted vars step is.2)
  command_sorted vars (do_while body c) is = (plain_sorted vars body is.0, is.1)

module _ (table : Table) (k : ℕ) (may : Bool) where
  mutual
    pub plain_inside : (within : Bool) (body : Commands) → AllStand table k may within body → IsInside within (plain body)
    plain_inside within empty all = tt
    plain_inside within (sequence first more) all = (command_inside within first all.0, plain_inside within more all.1)

    command_inside : (within : Bool) (first : Command) → Stands table k may within first → IsInsideStatement within (plain_command first)
    command_inside within (assign x e) is = tt
    command_inside within (call target f arguments) is = tt
    command_inside within skip is = tt
    command_inside within (return value) is = tt
    command_inside within break is = is
    command_inside within continue is = is
    command_inside within (if_else c one other) is = (plain_inside within one is.0, plain_inside within other is.1)
    command_inside within (while_loop c body step) is = (plain_inside true body is.0, plain_inside within step is.1)
    command_inside within (do_while body c) is = plain_inside true body is
