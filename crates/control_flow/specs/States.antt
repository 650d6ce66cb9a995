-- States of a program: a label with a store. Which of them are reached from some input.
use Rattle.std.specs.Prelude.{◌≡◌, ℕ}
use Rattle.step_meaning.specs.Syntax.{Statements}
use Rattle.step_meaning.specs.Outcome.{Store}
use Rattle.step_meaning.specs.Run.{IsInput}
use Rattle.control_flow.specs.Edges.{Leads, SomeEdge, edges_from}
use Rattle.control_flow.specs.Labels.{action_at, entry_of}

-- some edge of the label leads to the other label and from the one store to the other
abbrev pub LeadsTo : Statements → ℕ → Store → ℕ → Store → Type 0
LeadsTo body label store target next =
    SomeEdge (λ edge. Leads (action_at body label) edge.kind store next × (edge.to ≡ target)) (edges_from label (action_at body label))

-- Edges lead to the state from the entry with some input of a program of `vars` variables with this body.
pub data IsReachedState (vars : ℕ) (body : Statements) : ℕ → Store → Type 0 where
  entered : (input : Store) → IsInput vars input → IsReachedState vars body (entry_of body) input
  followed : (label target : ℕ) (store next : Store) → IsReachedState vars body label store → LeadsTo body label store target next
      → IsReachedState vars body target next
