-- Invariants: for each label of a program a set of stores that has each store with which the label is reached.
use Rattle.std.specs.Prelude.{◌≡◌, ℕ, ℤ, List, length, slice_get, slice_set, IfSome}
use Rattle.step_meaning.specs.Syntax.{Statements}
use Rattle.step_meaning.specs.Outcome.{Store}
use Rattle.control_flow.specs.Labels.{all_labels}
use Rattle.control_flow.specs.States.{IsReachedState}

-- The states, of which `has` says which stores they have, are one for each label, and each has every store with which its label is reached,
-- whatever number is put at place 15, where a value is kept while it is chosen.
pub record AreInvariants {D : Type 0} (has : D → List ℤ → Type 0) (vars : ℕ) (body : Statements) (states : List D) : Type 0 where
  pub labels : length states ≡ length (all_labels body)
  pub members : (label : ℕ) (store : Store) (z : ℤ) → IsReachedState vars body label store
      → IfSome (slice_get states label) (λ state. has state (slice_set store 15 z))
