-- No state that is reached is stuck.
use Rattle.std.proofs.Common.{◌≡◌, ℕ, inl, inr, List, [], ◌∷◌, Option, None, Some, refl, sym, subst}
use Rattle.step_meaning.specs.Syntax.{Statements}
use Rattle.step_meaning.specs.Outcome.{Store}
use Rattle.step_meaning.specs.Step.{Configuration, Next, Todo, front, items_of}
use Rattle.step_meaning.specs.Valid.{AreStatements, IsBody}
use Rattle.step_meaning.proofs.Front.{same_end, same_steps}
use Rattle.step_meaning.proofs.Progress.{body_is_valid, step_stays, unstuck_at}
use Rattle.control_flow.specs.declared.edge.Edge.{Edge}
use Rattle.control_flow.specs.Edges.{EachEdge, LandsAt, Leads, SomeEdge, configuration, edges_from}
use Rattle.control_flow.specs.Labels.{Action, action_at, rest}
use Rattle.control_flow.proofs.Steps.{edges_are_steps, entry_is_start}
use Rattle.control_flow.specs.States.{IsReachedState, entered, followed}
use Rattle.control_flow.proofs.Reached.{reached_label}

-- of edges that each lead on by a step, one that leads from the store to the other does
lands : (body : Statements) (label : ℕ) (action : Action) (store next : Store) (target : ℕ) (edges : List (Option Edge))
    → EachEdge (λ edge. (s t : Store) → Leads action edge.kind s t → LandsAt body label s t edge.to) edges
    → SomeEdge (λ edge. Leads action edge.kind store next × (edge.to ≡ target)) edges → LandsAt body label store next target
lands body label action store next target [] each some = absurd some
lands body label action store next target (None ∷ more) each some = lands body label action store next target more each some
lands body label action store next target (Some edge ∷ more) each (inl leads) = subst (LandsAt body label store next) leads.1 (each.0 store next leads.0)
lands body label action store next target (Some edge ∷ more) each (inr later) = lands body label action store next target more each.1 later

module _ (vars : ℕ) (body : Statements) (valid : IsBody vars body) where
  -- valid statements, with the front of those of the label
  abbrev Stands : ℕ → Type 0
  Stands label = (todo : Todo) × AreStatements vars todo × (front todo ≡ front (rest body label))

  stands_at : (label : ℕ) (store : Store) → IsReachedState vars body label store → Stands label
  stands_at label store (entered input is) = (items_of body, body_is_valid vars body valid, sym (entry_is_start body))
  stands_at target next (followed label _ store _ before leads) =
      let prior = stands_at label store before in
      let here : Configuration = record { todo = prior.0; store = store } in
      let landing : LandsAt body label store next target =
      lands body label (action_at body label) store next target (edges_from label (action_at body label))
      (edges_are_steps body label (reached_label vars body label store before)).each_edge leads in (
        landing.0.todo,
        step_stays vars here landing.0 prior.1 (same_steps (configuration body label store) here (sym prior.2) refl landing.0 landing.1),
        landing.3,
      )

  pub some_successor : (label : ℕ) (store : Store) → IsReachedState vars body label store
      → (next : Configuration) × Next (configuration body label store) next
  some_successor label store reached =
      let prior = stands_at label store reached in
      let here : Configuration = record { todo = prior.0; store = store } in
      elim (unstuck_at vars here prior.1) [
        | inl final ↦ (configuration body label store, inr (same_end here (configuration body label store) prior.2 refl final, refl))
        | inr step ↦ (step.0, inl (same_steps here (configuration body label store) prior.2 refl step.0 step.1))
      ]
