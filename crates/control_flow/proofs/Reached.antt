-- What holds of each state that is reached.
use Rattle.std.proofs.Common.{◌≡◌, ℕ, ℤ, ◌<◌, ◌⊎◌, inl, inr, length, slice_set, sym, subst, ◌∙◌}
use Rattle.std.proofs.lemmas.List.{length-set}
use Rattle.step_meaning.specs.Syntax.{Statements}
use Rattle.step_meaning.specs.Outcome.{Store}
use Rattle.step_meaning.specs.Run.{IsInput}
use Rattle.step_meaning.specs.Valid.{IsBody}
use Rattle.step_meaning.proofs.Stores.{assigned}
use Rattle.control_flow.specs.Actions.{IsSorted, LeadsBelow}
use Rattle.control_flow.specs.Edges.{Leads, SomeEdge, edges_from}
use Rattle.control_flow.specs.Labels.{Action, ends, assigns, passes, tests, action_at, all_labels}
use Rattle.control_flow.proofs.LabelLaws.{edges_lead_to_labels, entry_is_a_label, labels_are_sorted}
use Rattle.control_flow.specs.States.{IsReachedState, entered, followed}

-- some edge of a label at which this is done leads from the one store to the other, and to the target
abbrev pub Follows : ℕ → Action → Store → ℕ → Store → Type 0
Follows label action store target next = SomeEdge (λ edge. Leads action edge.kind store next × (edge.to ≡ target)) (edges_from label action)

-- the target is one of the labels that follow
target_below : (labels label : ℕ) (action : Action) (store : Store) (target : ℕ) (next : Store) → LeadsBelow labels action
    → Follows label action store target next → target < labels
target_below labels label ends store target next below follows = absurd follows
target_below labels label (assigns x e to) store target next below (inl edge) = subst (λ t. t < labels) edge.1 below
target_below labels label (assigns x e to) store target next below (inr none) = absurd none
target_below labels label (passes to) store target next below (inl edge) = subst (λ t. t < labels) edge.1 below
target_below labels label (passes to) store target next below (inr none) = absurd none
target_below labels label (tests head c to other) store target next below (inl edge) = subst (λ t. t < labels) edge.1 below.0
target_below labels label (tests head c to other) store target next below (inr (inl edge)) = subst (λ t. t < labels) edge.1 below.1
target_below labels label (tests head c to other) store target next below (inr (inr none)) = absurd none

-- the store is the same, or has another number at the place of a variable
abbrev Changes : Action → Store → Store → Type 0
Changes action store next =
    (next ≡ store) ⊎ ((x : ℕ) × (v : ℤ) × ((vars : ℕ) → IsSorted vars action → x < vars) × (next ≡ slice_set store x v))

changes : (label : ℕ) (action : Action) (store : Store) (target : ℕ) (next : Store) → Follows label action store target next
    → Changes action store next
changes label ends store target next follows = absurd follows
changes label (assigns x e to) store target next (inl edge) = inr (x, edge.0.0, (λ vars sorted. sorted.0), edge.0.2)
changes label (assigns x e to) store target next (inr none) = absurd none
changes label (passes to) store target next (inl edge) = inl edge.0
changes label (passes to) store target next (inr none) = absurd none
changes label (tests head c to other) store target next (inl edge) = inl edge.0.1
changes label (tests head c to other) store target next (inr (inl edge)) = inl edge.0.1
changes label (tests head c to other) store target next (inr (inr none)) = absurd none

places_kept : (action : Action) (store next : Store) → Changes action store next → length store ≡ 16 → length next ≡ 16
places_kept action store next (inl same) long = subst (λ (s : Store). length s ≡ 16) (sym same) long
places_kept action store next (inr set) long = subst (λ (s : Store). length s ≡ 16) (sym set.3) (length-set store set.0 set.1 ∙ long)

input_kept : (vars : ℕ) (action : Action) (store next : Store) → Changes action store next → IsSorted vars action → IsInput vars store
    → IsInput vars next
input_kept vars action store next (inl same) sorted input = subst (IsInput vars) (sym same) input
input_kept vars action store next (inr set) sorted input =
    subst (IsInput vars) (sym set.3) (assigned vars store set.0 set.1 (set.2 vars sorted) input)

module _ (vars : ℕ) (body : Statements) where
  pub reached_label : (label : ℕ) (store : Store) → IsReachedState vars body label store → label < length (all_labels body)
  reached_label label store (entered input is) = entry_is_a_label body
  reached_label target next (followed label _ store _ before leads) =
      target_below (length (all_labels body)) label (action_at body label) store target next
      (edges_lead_to_labels body label (reached_label label store before)) leads

  pub reached_places : (label : ℕ) (store : Store) → IsReachedState vars body label store → length store ≡ 16
  reached_places label store (entered input is) = is.places
  reached_places target next (followed label _ store _ before leads) =
      places_kept (action_at body label) store next (changes label (action_at body label) store target next leads) (reached_places label store before)

  pub reached_input : IsBody vars body → (label : ℕ) (store : Store) → IsReachedState vars body label store → IsInput vars store
  reached_input valid label store (entered input is) = is
  reached_input valid target next (followed label _ store _ before leads) =
      input_kept vars (action_at body label) store next (changes label (action_at body label) store target next leads)
      (labels_are_sorted vars body valid label (reached_label label store before)) (reached_input valid label store before)
