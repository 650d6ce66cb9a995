-- Labels behind one row: each store with which one is reached meets the row, and sets met with it stay invariants.
use Rattle.std.proofs.Common.{◌≡◌, ◌≢◌, ℕ, zero, suc, ◌<◌, ◌≤◌, ℤ, inl, inr, ⊎_elim, Bool, List, [], ◌∷◌, length, length-set, slice_get, slice_set, Option, None, Some, IfSome, refl, sym, ap, subst, ◌∙◌, arith}
use Rattle.std.proofs.lemmas.Bool.{cases_eq}
use Rattle.step_meaning.specs.Naming.{NamesBelow}
use Rattle.step_meaning.specs.Outcome.{MayTest, Store}
use Rattle.step_meaning.specs.Syntax.{Expression, Statements}
use Rattle.step_meaning.specs.Valid.{IsBody}
use Rattle.linear_cons.specs.declared.bounds.Bounds.{Bounds}
use Rattle.linear_cons.specs.declared.row.Row.{Row}
use Rattle.linear_cons.specs.Bounds.{LiesIn}
use Rattle.linear_cons.specs.Rows.{Meets}
use Rattle.linear_forms.specs.Meeting.{MeetsOne}
use Rattle.linear_forms.specs.Spreading.{spread_of}
use Rattle.linear_forms.proofs.Naming.{test_names}
use Rattle.num_domain.specs.Domain.{AllMeet, IsPlain, KeepsMeeting}
use Rattle.control_flow.specs.declared.edge.Edge.{Edge}
use Rattle.control_flow.specs.declared.edge.EdgeKind.{EdgeKind}
use Rattle.control_flow.specs.declared.edge.EdgeKind.TheVariants.{Assign, Skip, Test}
use Rattle.control_flow.specs.Actions.{IsPlaced, IsSorted}
use Rattle.control_flow.specs.Edges.{Leads, SomeEdge, edges_from, test_by}
use Rattle.control_flow.specs.Labels.{Action, ends, assigns, passes, tests, action_at, entry_of}
use Rattle.control_flow.proofs.LabelLaws.{labels_are_sorted}
use Rattle.forward_inv.specs.Behind.{IsBehind, IsEdgeOf, IsMetOnArrival, IsOnlyEdge, MeetsBehind}
use Rattle.control_flow.specs.Invariants.{AreInvariants}
use Rattle.control_flow.specs.States.{IsReachedState, entered, followed}
use Rattle.control_flow.proofs.Reached.{reached_label, reached_places}
use Rattle.forward_inv.proofs.Spared.{test_spared}

-- some edge of the list, and what is said of it
picked : (P : Edge → Type 0) (edges : List (Option Edge)) → SomeEdge P edges
    → (edge : Edge) × P edge × SomeEdge (λ other. other ≡ edge) edges
picked P [] some = absurd some
picked P (None ∷ more) some = picked P more some
picked P (Some edge ∷ more) (inl is) = (edge, is, inl refl)
picked P (Some edge ∷ more) (inr later) = let found = picked P more later in (found.0, found.1, inr found.2)

-- the edges from a label are from there
from_there : (label : ℕ) (action : Action) (edge : Edge) → SomeEdge (λ other. other ≡ edge) (edges_from label action) → edge.from ≡ label
from_there label ends edge some = absurd some
from_there label (assigns x e to) edge (inl is) = sym (ap (λ (e : Edge). e.from) is)
from_there label (assigns x e to) edge (inr none) = absurd none
from_there label (passes to) edge (inl is) = sym (ap (λ (e : Edge). e.from) is)
from_there label (passes to) edge (inr none) = absurd none
from_there label (tests head c to other) edge (inl is) = sym (ap (λ (e : Edge). e.from) is)
from_there label (tests head c to other) edge (inr (inl is)) = sym (ap (λ (e : Edge). e.from) is)
from_there label (tests head c to other) edge (inr (inr none)) = absurd none

-- the edge of an outcome is that of a test
pub asked_over : (label : ℕ) (action : Action) (edge : Edge) (outcome : Bool) → SomeEdge (λ other. other ≡ edge) (edges_from label action)
    → edge.kind ≡ Test outcome → (c : Expression) × (test_by action ≡ Some c)
asked_over label ends edge outcome some kind = absurd some
asked_over label (assigns x e to) edge outcome (inl is) kind =
    let kinds : ◌≡◌ {A = EdgeKind} Assign (Test outcome) = ap (λ (e : Edge). e.kind) is ∙ kind in absurd (cc)
asked_over label (assigns x e to) edge outcome (inr none) kind = absurd none
asked_over label (passes to) edge outcome (inl is) kind =
    let kinds : ◌≡◌ {A = EdgeKind} Skip (Test outcome) = ap (λ (e : Edge). e.kind) is ∙ kind in absurd (cc)
asked_over label (passes to) edge outcome (inr none) kind = absurd none
asked_over label (tests head c to other) edge outcome some kind = (c, refl)

-- what a test names stands at one of the places
pub test_placed : (action : Action) (c : Expression) → IsPlaced action → test_by action ≡ Some c → NamesBelow 16 c
test_placed (tests head d to other) c placed is = let same : d ≡ c = cc in subst (NamesBelow 16) same placed
test_placed ends c placed is = absurd (cc)
test_placed (assigns x e to) c placed is = absurd (cc)
test_placed (passes to) c placed is = absurd (cc)

-- what is asked over the edge of a test's outcome
asked : (action : Action) (test : Expression) (outcome : Bool) (store next : Store) → Some test ≡ test_by action
    → Leads action (Test outcome) store next → MayTest test store outcome × (next ≡ store)
asked ends test outcome store next is leads = absurd leads
asked (assigns x e to) test outcome store next is leads = absurd leads
asked (passes to) test outcome store next is leads = absurd leads
asked (tests head c to other) test outcome store next is leads =
    let same : test ≡ c = cc in (subst (λ t. MayTest t store outcome) (sym same) leads.0, leads.1)

test_named : (vars : ℕ) (action : Action) (test : Expression) → vars ≤ 15 → IsSorted vars action → Some test ≡ test_by action → NamesBelow 15 test
test_named vars ends test few sorted is = absurd (cc)
test_named vars (assigns x e to) test few sorted is = absurd (cc)
test_named vars (passes to) test few sorted is = absurd (cc)
test_named vars (tests head c to other) test few sorted is =
    let same : test ≡ c = cc in subst (NamesBelow 15) (sym same) (test_names vars 15 few c sorted)

one_met : (store : Store) (row : Row) → MeetsOne store ((row ∷ []) ∷ []) → Meets store row
one_met store row (inl each) = each.0
one_met store row (inr none) = absurd none

pub if_found : {X : Type 0} (P : X → Type 0) (x : Option X) → ((y : X) → x ≡ Some y → P y) → IfSome x P
if_found P None each = tt
if_found P (Some y) each = each y refl

-- the outcome of the only edge's test comes down to the row that the label lies behind
pub behind_spreads : (body : Statements) (label : ℕ) (row : Row) (edge : Edge) (test : Expression) (outcome : Bool) (bounds : Bounds)
    → IsBehind body label row → IsOnlyEdge (IsEdgeOf body) label edge → edge.kind ≡ Test outcome → Some test ≡ test_by (action_at body edge.from)
    → spread_of bounds test outcome ≡ (row ∷ []) ∷ []
behind_spreads body label row edge test outcome bounds behind only kind is =
    let same : edge ≡ behind.edge = behind.only.only edge only.is only.leads in
    let kinds : ◌≡◌ {A = EdgeKind} (Test outcome) (Test behind.outcome) = sym kind ∙ ap (λ (e : Edge). e.kind) same ∙ behind.kind in
    let outcomes : outcome ≡ behind.outcome = cc in
    let found : ◌≡◌ {A = Option Expression} (Some test) (Some behind.test) =
    is ∙ ap (λ (e : Edge). test_by (action_at body e.from)) same ∙ behind.asked in
    let written : test ≡ behind.test = cc in
    ap (λ t. spread_of bounds t outcome) written ∙ ap (λ o. spread_of bounds behind.test o) outcomes ∙ behind.spreads bounds

module _ (vars : ℕ) (few : vars ≤ 15) (body : Statements) (valid : IsBody vars body) where
  -- over the only edge to a label the store comes from a state that is reached, and its test had the outcome there
  pub arrival_meets : (label : ℕ) (edge : Edge) (test : Expression) (outcome : Bool) (row : Row) (bounds : Bounds)
      → label ≢ entry_of body → IsOnlyEdge (IsEdgeOf body) label edge → edge.kind ≡ Test outcome
      → Some test ≡ test_by (action_at body edge.from) → spread_of bounds test outcome ≡ (row ∷ []) ∷ []
      → ((store : Store) (z : ℤ) → IsReachedState vars body edge.from store → LiesIn bounds (slice_set store 15 z))
      → ((store : Store) → LiesIn bounds store → MayTest test store outcome → MeetsOne store (spread_of bounds test outcome))
      → IsMetOnArrival vars body label row
  arrival_meets label edge test outcome row bounds inner only kind is spreads lies covers store z (entered input input_is) = absurd (inner refl)
  arrival_meets target edge test outcome row bounds inner only kind is spreads lies covers next z (followed label _ store _ before leads) =
      let found = picked (λ e. Leads (action_at body label) e.kind store next × (e.to ≡ target)) (edges_from label (action_at body label)) leads in
      let from = from_there label (action_at body label) found.0 found.2 in
      let of : IsEdgeOf body found.0 = subst (λ l. SomeEdge (λ other. other ≡ found.0) (edges_from l (action_at body l))) (sym from) found.2 in
      let same : found.0 ≡ edge = only.only found.0 of found.1.1 in
      let here : edge.from ≡ label = sym (ap (λ (e : Edge). e.from) same) ∙ from in
      let over : Leads (action_at body label) (Test outcome) store next =
      subst (λ k. Leads (action_at body label) k store next) (ap (λ (e : Edge). e.kind) same ∙ kind) found.1.0 in
      let test_is : Some test ≡ test_by (action_at body label) = subst (λ l. Some test ≡ test_by (action_at body l)) here is in
      let outcome_is = asked (action_at body label) test outcome store next test_is over in
      let named = test_named vars (action_at body label) test few (labels_are_sorted vars body valid label (reached_label vars body label store before)) test_is in
      let inside : LiesIn bounds (slice_set store 15 z) = lies store z (subst (λ l. IsReachedState vars body l store) (sym here) before) in
      let met : Meets (slice_set store 15 z) row =
      one_met (slice_set store 15 z) row
      (subst (MeetsOne (slice_set store 15 z)) spreads
      (covers (slice_set store 15 z) inside (test_spared store z test named outcome outcome_is.0))) in
      subst (λ (s : Store). Meets (slice_set s 15 z) row) (sym outcome_is.1) met

-- ---- sets met with a row

slot_here : {X : Type 0} (xs : List X) (i : ℕ) (x : X) → i < length xs → slice_get (slice_set xs i x) i ≡ Some x
slot_here [] i x low = absurd (omega (arith, low))
slot_here (first ∷ xs) zero x low = refl
slot_here (first ∷ xs) (suc i) x low = slot_here xs i x (omega (arith, low))

pub slot_elsewhere : {X : Type 0} (xs : List X) (i j : ℕ) (x : X) → j ≢ i → slice_get (slice_set xs i x) j ≡ slice_get xs j
slot_elsewhere [] i j x apart = refl
slot_elsewhere (first ∷ xs) zero zero x apart = absurd (apart refl)
slot_elsewhere (first ∷ xs) zero (suc j) x apart = refl
slot_elsewhere (first ∷ xs) (suc i) zero x apart = refl
slot_elsewhere (first ∷ xs) (suc i) (suc j) x apart = slot_elsewhere xs i j x (λ same. apart (ap suc same))

module _ {D : Type 0} (has : D → List ℤ → Type 0) (vars : ℕ) (body : Statements) (old : List D) (label : ℕ) (set met : D) where
  pub invariants_met : (row : Row) → label < length old → slice_get old label ≡ Some set → AreInvariants has vars body old
      → IsMetOnArrival vars body label row → KeepsMeeting row (has set) (has met) → AreInvariants has vars body (slice_set old label met)
  invariants_met row low here are arrival keeps = record {
    labels = length-set old label met ∙ are.labels;
    members = λ other store z reached. ⊎_elim
        (λ (same : other ≡ label).
        let reached_here : IsReachedState vars body label store = subst (λ l. IsReachedState vars body l store) same reached in
        let member : has set (slice_set store 15 z) =
        subst (λ found. IfSome found (λ state. has state (slice_set store 15 z))) here (are.members label store z reached_here) in
        subst (λ found. IfSome found (λ state. has state (slice_set store 15 z)))
        (sym (ap (slice_get (slice_set old label met)) same ∙ slot_here old label met low))
        (keeps (slice_set store 15 z) (length-set store 15 z ∙ reached_places vars body label store reached_here) member
        (arrival store z reached_here)))
        (λ (apart : other ≢ label).
        subst (λ found. IfSome found (λ state. has state (slice_set store 15 z))) (sym (slot_elsewhere old label other met apart))
        (are.members other store z reached))
        (cases_eq other label);
  }

  pub row_met : (row : Row) → label < length old → ((place : ℕ) → IsPlain row place → AllMeet row (has met))
      → ((other : Row) → IsBehind body label other → other ≡ row) → MeetsBehind has body (slice_set old label met) label
  row_met row low plain only other behind =
      let same : other ≡ row = only other behind in
      subst (λ found. IfSome found (λ state. AllMeet other (has state))) (sym (slot_here old label met low))
      (subst (λ r. AllMeet r (has met)) (sym same) (plain behind.plain.0 (subst (λ r. IsPlain r behind.plain.0) same behind.plain.1)))
