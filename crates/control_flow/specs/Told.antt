-- What is told of the stores at the labels of a program.
use Rattle.std.specs.Prelude.{◌≡◌, ℕ, ℤ, Bool, false, List, [], Option, None, Some, slice_get, slice_set}
use Rattle.step_meaning.specs.Syntax.{Statements}
use Rattle.step_meaning.specs.Outcome.{Store}
use Rattle.linear_cons.specs.declared.bounds.Bounds.{Bounds}
use Rattle.linear_cons.specs.declared.row.Row.{Row}
use Rattle.linear_cons.specs.Bounds.{LiesIn}
use Rattle.linear_cons.specs.Rows.{MeetsAll}
use Rattle.control_flow.specs.States.{IsReachedState}

-- the place that is no variable's, where a value is kept while it is chosen
abbrev pub chosen_place : ℕ
chosen_place = 15

-- bounds and rows of the stores at each label, and whether no store is there
pub record Told : Type 0 where
  pub bounds : ℕ → Bounds
  pub rows : ℕ → List Row
  pub dead : ℕ → Bool

-- It is true of each state of the program that is reached, whatever number is put at the place where a value is kept while it is chosen.
pub record IsTrueOfReached (vars : ℕ) (body : Statements) (told : Told) : Type 0 where
  pub bounds : (label : ℕ) (store : Store) (z : ℤ) → IsReachedState vars body label store
      → LiesIn (told.bounds label) (slice_set store chosen_place z)
  pub rows : (label : ℕ) (store : Store) (z : ℤ) → IsReachedState vars body label store
      → MeetsAll (slice_set store chosen_place z) (told.rows label)
  pub dead : (label : ℕ) (store : Store) → IsReachedState vars body label store → told.dead label ≡ false

-- what one state tells; where there is none nothing is told
abbrev pub told_at : {D A : Type 0} → (D → A) → A → Option D → A
told_at tells none None = none
told_at tells none (Some state) = tells state

abbrev pub no_bounds : Bounds
no_bounds = record { ends = [] }

-- what a list of states tells, one state for each label
abbrev pub told_by : {D : Type 0} → (D → Bounds) → (D → List Row) → (D → Bool) → List D → Told
told_by bounds rows empty states = record {
  bounds = λ label. told_at bounds no_bounds (slice_get states label);
  rows = λ label. told_at rows [] (slice_get states label);
  dead = λ label. told_at empty false (slice_get states label);
}
