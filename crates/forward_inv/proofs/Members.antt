-- Inductive sets have each store with which their label is reached.
use Rattle.std.proofs.Common.{◌≡◌, ℕ, ◌≤◌, ℤ, inl, inr, List, [], ◌∷◌, slice_get, slice_set, Option, None, Some, IfSome, IsSomeAnd, length-set, subst, ◌∙◌}
use Rattle.step_meaning.specs.Syntax.{Statements}
use Rattle.step_meaning.specs.Outcome.{Store}
use Rattle.step_meaning.specs.Valid.{IsBody}
use Rattle.num_domain.specs.Domain.{HasEvery, IsStore}
use Rattle.control_flow.specs.declared.edge.Edge.{Edge}
use Rattle.control_flow.specs.Edges.{EachEdge, Leads, SomeEdge, edges_from}
use Rattle.control_flow.specs.Labels.{action_at, entry_of}
use Rattle.control_flow.proofs.LabelLaws.{labels_are_sorted}
use Rattle.forward_inv.specs.Sets.{AreInductive, KeepsEdge, LeadsInto}
use Rattle.forward_inv.proofs.Holding.{some_weaker}
use Rattle.control_flow.specs.Invariants.{AreInvariants}
use Rattle.control_flow.specs.States.{IsReachedState, entered, followed}
use Rattle.control_flow.proofs.Reached.{reached_label, reached_places}
use Rattle.forward_inv.proofs.Spared.{leads_spared}

if_there : {X : Type 0} (P : X → Type 0) (x : Option X) → IsSomeAnd x P → IfSome x P
if_there P None there = tt
if_there P (Some y) there = there

-- what is said of a value that is there, where something is said of it if it is
both_there : {X : Type 0} (P Q : X → Type 0) (x : Option X) → IsSomeAnd x P → IfSome x Q → (y : X) × P y × Q y
both_there P Q None there if_so = absurd there
both_there P Q (Some y) there if_so = (y, there, if_so)

module _ {D : Type 0} (has : D → List ℤ → Type 0) (vars : ℕ) (body : Statements) (sets : List D) where
  -- the label's set is there, and has the store with the number at place 15
  abbrev Has : ℕ → Store → ℤ → Type 0
  Has label store z = IsSomeAnd (slice_get sets label) (λ set. has set (slice_set store 15 z))

  over_edge : (label : ℕ) (edge : Edge) (store next : Store) (z : ℤ) → IsStore (slice_set store 15 z) → Has label store z
      → KeepsEdge has body sets label edge → Leads (action_at body label) edge.kind (slice_set store 15 z) (slice_set next 15 z) → Has edge.to next z
  over_edge label edge store next z long here keeps leads =
      let found = both_there (λ set. has set (slice_set store 15 z))
      (λ set. IsSomeAnd (slice_get sets edge.to) (λ target. LeadsInto (action_at body label) edge.kind (has set) (has target)))
      (slice_get sets label) here keeps in
      some_weaker has (λ target. LeadsInto (action_at body label) edge.kind (has found.0) (has target)) (λ target. has target (slice_set next 15 z))
      (slice_get sets edge.to) (λ target into. into (slice_set store 15 z) (slice_set next 15 z) long found.1 leads) found.2

  over_some : (label target : ℕ) (store next : Store) (z : ℤ) (edges : List (Option Edge)) → IsStore (slice_set store 15 z) → Has label store z
      → ((edge : Edge) → Leads (action_at body label) edge.kind store next
      → Leads (action_at body label) edge.kind (slice_set store 15 z) (slice_set next 15 z))
      → EachEdge (KeepsEdge has body sets label) edges
      → SomeEdge (λ edge. Leads (action_at body label) edge.kind store next × (edge.to ≡ target)) edges → Has target next z
  over_some label target store next z [] long here spared each leads = absurd leads
  over_some label target store next z (None ∷ more) long here spared each leads = over_some label target store next z more long here spared each leads
  over_some label target store next z (Some edge ∷ more) long here spared each (inl leads) =
      subst (λ to. Has to next z) leads.1 (over_edge label edge store next z long here each.0 (spared edge leads.0))
  over_some label target store next z (Some edge ∷ more) long here spared each (inr later) =
      over_some label target store next z more long here spared each.1 later

  module _ (few : vars ≤ 15) (valid : IsBody vars body) (inductive : AreInductive has body sets) where
    has_reached : (label : ℕ) (store : Store) → IsReachedState vars body label store → (z : ℤ) → Has label store z
    has_reached label store (entered input is) z =
        some_weaker has (λ set. HasEvery (has set)) (λ set. has set (slice_set store 15 z)) (slice_get sets (entry_of body))
        (λ set every. every (slice_set store 15 z) (length-set store 15 z ∙ is.places)) inductive.entry
    has_reached target next (followed label _ store _ before leads) z =
        over_some label target store next z (edges_from label (action_at body label))
        (length-set store 15 z ∙ reached_places vars body label store before) (has_reached label store before z)
        (λ edge. leads_spared store z vars few (action_at body label)
        (labels_are_sorted vars body valid label (reached_label vars body label store before)) edge.kind next)
        (inductive.edges label) leads

    pub are_invariants : AreInvariants has vars body sets
    are_invariants = record {
      labels = inductive.labels;
      members = λ label store z reached. if_there (λ set. has set (slice_set store 15 z)) (slice_get sets label) (has_reached label store reached z);
    }
