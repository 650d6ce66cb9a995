-- The targets of arcs are those of edges.
use Rattle.std.proofs.Common.{◌≡◌, ◌≢◌, ◌⊎◌, inl, inr, ℕ, zero, suc, ◌==◌, Bool, true, false, if◌then◌else◌, List, [], ◌∷◌, slice_index_or, Contains, Option, None, sym, ap, ◌∙◌, arith}
use Rattle.std.proofs.lemmas.Bool.{eqb-false}
use Rattle.std.proofs.lemmas.List.Elements.{Contains-append_cases}
use Rattle.linear_cons.specs.declared.affine.Affine.{Affine}
use Rattle.linear_cons.specs.declared.bounds.Bounds.{Bounds}
use Rattle.linear_cons.specs.declared.bounds.Linear.{Linear}
use Rattle.control_flow.specs.declared.edge.Edge.{Edge}
use Rattle.linear_cons.specs.declared.row.Row.{Row}
use Rattle.linear_forms.specs.Linearising.{is_exact, linear_of}
use Rattle.linear_forms.specs.Spreading.{spread_of}
use Rattle.quotient_cases.specs.Cases.{value_rows}
use Rattle.control_flow.specs.Edges.{edges_from}
use Rattle.control_flow.specs.Labels.{Action, ends, assigns, passes, tests}
use Rattle.tree_support.specs.Arcs.{Arc, arcs_by, arcs_of_outcome, arcs_putting, assigning, choosing_each, putting, testing}
use Rattle.tree_check.specs.Rounds.{Avoid, target_of}

-- the edge of a number
abbrev pub edge_to : List (Option Edge) → ℕ → ℕ
edge_to edges number = target_of (slice_index_or edges number None)

given_target : (edge next : ℕ) (conjunctions : List (List Row)) (arc : Arc) → Contains (testing edge next conjunctions) arc → arc.target ≡ next
given_target edge next [] arc member = absurd (let low = member.1 in omega arith)
given_target edge next (rows ∷ more) arc (zero, low, same) = ap (λ (a : Arc). a.target) (sym same)
given_target edge next (rows ∷ more) arc (suc k, low, same) = given_target edge next more arc (k, omega arith, same)

only_one : {X : Type 0} (x y : X) → Contains (x ∷ []) y → y ≡ x
only_one x y (zero, low, same) = sym same
only_one x y (suc k, low, same) = absurd (omega arith)

chosen_target : (x next : ℕ) (value : Linear) (cases : List (List Row)) (arc : Arc) → Contains (choosing_each x next value cases) arc → arc.target ≡ next
chosen_target x next value [] arc member = absurd (let low = member.1 in omega arith)
chosen_target x next value (rows ∷ more) arc (zero, low, same) = ap (λ (a : Arc). a.target) (sym same)
chosen_target x next value (rows ∷ more) arc (suc k, low, same) = chosen_target x next value more arc (k, omega arith, same)

assigned_target : (x next : ℕ) (value : Linear) (cases : List (List Row)) (arc : Arc) → Contains (assigning x next value cases) arc → arc.target ≡ next
assigned_target x next value cases arc = by_form (is_exact value) where
  by_form : (t : Bool) → Contains (if t then putting x next value.affine ∷ [] else choosing_each x next value cases) arc → arc.target ≡ next
  by_form true member = ap (λ (a : Arc). a.target) (only_one (putting x next value.affine) arc member)
  by_form false member = chosen_target x next value cases arc member

arcs_lead : (bounds : Bounds) (label : ℕ) (action : Action) (arc : Arc) → Contains (arcs_by bounds action) arc
    → (arc.target ≡ edge_to (edges_from label action) 0) ⊎ (arc.target ≡ edge_to (edges_from label action) 1)
arcs_lead bounds label ends arc member = inl (ap (λ (a : Arc). a.target) (only_one _ arc member))
arcs_lead bounds label (assigns x e next) arc member =
    inl (assigned_target x next (linear_of bounds e) (value_rows bounds 15 e) arc member)
arcs_lead bounds label (passes next) arc member = inl (ap (λ (a : Arc). a.target) (only_one _ arc member))
arcs_lead bounds label (tests head c then_to else_to) arc member = elim (Contains-append_cases (testing 0 then_to (spread_of bounds c true)) (testing 1 else_to (spread_of bounds c false)) arc member) [
  | inl first ↦ inl (given_target 0 then_to (spread_of bounds c true) arc first)
  | inr second ↦ inr (given_target 1 else_to (spread_of bounds c false) arc second)
]

-- those of one outcome of a test, and that of an assignment with a function put, lead nowhere else
outcome_leads : (bounds : Bounds) (label : ℕ) (action : Action) (outcome : Bool) (arc : Arc) → Contains (arcs_of_outcome bounds action outcome) arc
    → (arc.target ≡ edge_to (edges_from label action) 0) ⊎ (arc.target ≡ edge_to (edges_from label action) 1)
outcome_leads bounds label ends outcome arc member = absurd (let low = member.1 in omega arith)
outcome_leads bounds label (assigns x e next) outcome arc member = absurd (let low = member.1 in omega arith)
outcome_leads bounds label (passes next) outcome arc member = absurd (let low = member.1 in omega arith)
outcome_leads bounds label (tests head c then_to else_to) true arc member = inl (given_target 0 then_to (spread_of bounds c true) arc member)
outcome_leads bounds label (tests head c then_to else_to) false arc member = inr (given_target 1 else_to (spread_of bounds c false) arc member)

value_leads : (label : ℕ) (action : Action) (a : Affine) (arc : Arc) → Contains (arcs_putting action a) arc
    → (arc.target ≡ edge_to (edges_from label action) 0) ⊎ (arc.target ≡ edge_to (edges_from label action) 1)
value_leads label ends a arc member = absurd (let low = member.1 in omega arith)
value_leads label (assigns x e next) a arc member = inl (ap (λ (a : Arc). a.target) (only_one _ arc member))
value_leads label (passes next) a arc member = absurd (let low = member.1 in omega arith)
value_leads label (tests head c then_to else_to) a arc member = absurd (let low = member.1 in omega arith)

module _ (label other : ℕ) (action : Action) (edges : List (Option Edge)) (to next : ℕ) (are : edges ≡ edges_from label action)
    (to_is : to ≡ edge_to edges 0) (next_is : next ≡ edge_to edges 1) (to_apart : to ≢ other) (next_apart : (next == other) ≡ false) where
  leads_elsewhere : (target : ℕ) → (target ≡ edge_to (edges_from label action) 0) ⊎ (target ≡ edge_to (edges_from label action) 1) → target ≢ other
  leads_elsewhere target (inl is) same = to_apart (to_is ∙ ap (λ e. edge_to e 0) are ∙ sym is ∙ same)
  leads_elsewhere target (inr is) same = absurd (eqb-false next other next_apart (next_is ∙ ap (λ e. edge_to e 1) are ∙ sym is ∙ same))

  pub arcs_avoid : (bounds : Bounds) → Avoid (arcs_by bounds action) other
  arcs_avoid bounds arc member = leads_elsewhere arc.target (arcs_lead bounds label action arc member)

  pub outcome_avoids : (bounds : Bounds) (outcome : Bool) → Avoid (arcs_of_outcome bounds action outcome) other
  outcome_avoids bounds outcome arc member = leads_elsewhere arc.target (outcome_leads bounds label action outcome arc member)

  pub value_avoids : (a : Affine) → Avoid (arcs_putting action a) other
  value_avoids a arc member = leads_elsewhere arc.target (value_leads label action a arc member)
