-- Sets of stores for labels: what holds of each, and that edges lead from one into the other.
use Rattle.std.proofs.Common.{◌≡◌, ℕ, zero, suc, ◌<◌, ◌==◌, true, false, ℤ, get_or, List, [], ◌∷◌, ◌++◌, length, slice_get, Option, None, Some, IfSome, IsSomeAnd, All, refl, sym, ap, subst, ◌∙◌, arith, inl, inr, length-set}
use Rattle.std.proofs.lemmas.List.Elements.{All-head, All-tail}
use Rattle.std.proofs.lemmas.Option.{slice_get_past, slice_get_read}
use Rattle.std.proofs.lemmas.Bool.{ltb-true}
use Rattle.std.proofs.Math.Dec.{ltb}
use Rattle.std.proofs.lemmas.Bool.{cases_lt}
use Rattle.std.proofs.lemmas.Bool.Decides.{Decides-eqb}
use Rattle.step_meaning.specs.Outcome.{Store}
use Rattle.step_meaning.specs.Syntax.{Statements}
use Rattle.linear_cons.specs.declared.bounds.Bounds.{Bounds}
use Rattle.linear_cons.specs.declared.row.Row.{Row}
use Rattle.linear_cons.specs.Rows.{MeetsAll}
use Rattle.num_domain.specs.Domain.{AllMeet, HasEvery, IsStore}
use Rattle.control_flow.specs.declared.edge.Edge.{Edge}
use Rattle.control_flow.specs.declared.edge.EdgeKind.{EdgeKind}
use Rattle.control_flow.specs.declared.edge.EdgeKind.TheVariants.{Assign, Skip, Test}
use Rattle.control_flow.specs.Actions.{IsPlaced, LeadsBelow}
use Rattle.control_flow.specs.Edges.{EachEdge, Leads, edges_from}
use Rattle.control_flow.specs.Labels.{Action, action_at, all_labels, assigns, ends, entry_of, passes, tests}
use Rattle.control_flow.specs.Transitions.{IsOver}
use Rattle.control_flow.specs.declared.transition.Transition.{Transition}
use Rattle.forward_inv.specs.Sets.{AreInductive, HoldEach, HoldsRows, IsMemberOf, KeepsEdge, LeadsBy, LeadsInto}

-- an edge leads to a store of sixteen places
leads_store : (action : Action) (kind : EdgeKind) (store next : Store) → Leads action kind store next → IsStore store → IsStore next
leads_store (assigns x e to) Assign store next leads long = ap length leads.2 ∙ length-set store x leads.0 ∙ long
leads_store (passes to) Skip store next leads long = ap length leads ∙ long
leads_store (tests head c yes_label no_label) (Test holds) store next leads long = ap length leads.1 ∙ long
leads_store action kind store next leads long = absurd leads

-- what follows of each edge holds of those of a label
both_edges : (P Q : Edge → Type 0) → ((edge : Edge) → P edge → Q edge) → (label : ℕ) (action : Action)
    → IfSome (get_or (edges_from label action) 0 None) P → IfSome (get_or (edges_from label action) 1 None) P → EachEdge Q (edges_from label action)
both_edges P Q makes label ends one other = tt
both_edges P Q makes label (assigns x e to) one other = (makes _ one, tt)
both_edges P Q makes label (passes to) one other = (makes _ one, tt)
both_edges P Q makes label (tests head c yes_label no_label) one other = (makes _ one, (makes _ other, tt))

module _ {D : Type 0} (has : D → List ℤ → Type 0) where
  -- the next set holds the rows of the next label
  pub one_more_holds : (rows_at : ℕ → List Row) (sets : List D) (set : D) → HoldEach has rows_at sets → HoldsRows has (rows_at (length sets)) set
      → HoldEach has rows_at (sets ++ set ∷ [])
  one_more_holds rows_at [] set before here zero other is = let same : set ≡ other = cc in subst (HoldsRows has (rows_at 0)) same here
  one_more_holds rows_at [] set before here (suc label) other is = absurd (cc)
  one_more_holds rows_at (first ∷ sets) set before here zero other is = before 0 other is
  one_more_holds rows_at (first ∷ sets) set before here (suc label) other is =
      one_more_holds (λ i. rows_at (suc i)) sets set (λ i at there. before (suc i) at there) here label other is

  pub none_hold : (rows_at : ℕ → List Row) → HoldEach has rows_at []
  none_hold rows_at label set is = absurd (cc)

  -- each label has a set that holds its rows
  pub holds_at : (rows_at : ℕ → List Row) (sets : List D) (i : ℕ) → HoldEach has rows_at sets → i < length sets
      → IsSomeAnd (slice_get sets i) (HoldsRows has (rows_at i))
  holds_at rows_at [] i holds low = absurd (omega (arith, low))
  holds_at rows_at (set ∷ sets) zero holds low = holds 0 set refl
  holds_at rows_at (set ∷ sets) (suc i) holds low =
      holds_at (λ k. rows_at (suc k)) sets i (λ k at there. holds (suc k) at there) (omega (arith, low))

  -- what is there is also what follows from it
  pub some_weaker : {X : Type 0} (P Q : X → Type 0) (x : Option X) → ((y : X) → P y → Q y) → IsSomeAnd x P → IsSomeAnd x Q
  some_weaker P Q None there holds = holds
  some_weaker P Q (Some y) there holds = there y holds

  -- an edge behind which all rows of the target are met
  pub kept_edge : (bounds : Bounds) (transition : Transition) (rows_at : ℕ → List Row) (sets : List D) (edge : Edge) (set : D) (moved : Option D) (rows : List Row)
      → HoldEach has rows_at sets → edge.to < length sets → rows ≡ rows_at edge.to
      → LeadsBy bounds transition edge.kind (has set) (IsMemberOf has moved) → All (λ row. AllMeet row (IsMemberOf has moved)) rows
      → IsSomeAnd (slice_get sets edge.to) (λ target. LeadsBy bounds transition edge.kind (has set) (has target))
  kept_edge bounds transition rows_at sets edge set moved rows holds there are leads implied =
      some_weaker (HoldsRows has (rows_at edge.to)) (λ target. LeadsBy bounds transition edge.kind (has set) (has target)) (slice_get sets edge.to)
      (λ target held action placed over store next long member step.
      let after = leads_store action edge.kind store next step long in
      held next after (subst (MeetsAll next) are (λ k d low. implied k d low next after (leads action placed over store next long member step))))
      (holds_at rows_at sets edge.to holds there)

  -- both edges of a label, by what is done there
  pub kept_edges : (body : Statements) (bounds : Bounds) (transition : Transition) (sets : List D) (label : ℕ) (set : D) (edges : List (Option Edge))
      → edges ≡ edges_from label (action_at body label) → slice_get sets label ≡ Some set
      → IsPlaced (action_at body label) → IsOver bounds (action_at body label) transition
      → IfSome (get_or edges 0 None) (λ edge. IsSomeAnd (slice_get sets edge.to) (λ target. LeadsBy bounds transition edge.kind (has set) (has target)))
      → IfSome (get_or edges 1 None) (λ edge. IsSomeAnd (slice_get sets edge.to) (λ target. LeadsBy bounds transition edge.kind (has set) (has target)))
      → EachEdge (KeepsEdge has body sets label) (edges_from label (action_at body label))
  kept_edges body bounds transition sets label set edges are own placed over one other =
      both_edges _ (KeepsEdge has body sets label)
      (λ edge into. subst (λ found. IfSome found (λ set. IsSomeAnd (slice_get sets edge.to) (λ target. LeadsInto (action_at body label) edge.kind (has set) (has target)))) (sym own)
      (some_weaker (λ target. LeadsBy bounds transition edge.kind (has set) (has target)) (λ target. LeadsInto (action_at body label) edge.kind (has set) (has target))
      (slice_get sets edge.to) (λ target leads. leads (action_at body label) placed over) into))
      label (action_at body label)
      (subst (λ list. IfSome (get_or list 0 None) (λ edge. IsSomeAnd (slice_get sets edge.to) (λ target. LeadsBy bounds transition edge.kind (has set) (has target)))) are one)
      (subst (λ list. IfSome (get_or list 1 None) (λ edge. IsSomeAnd (slice_get sets edge.to) (λ target. LeadsBy bounds transition edge.kind (has set) (has target)))) are other)

  -- the entry has every store where it has no row
  pub free_entry : (rows_at : ℕ → List Row) (sets : List D) (entry : ℕ) → HoldEach has rows_at sets → rows_at entry ≡ [] → entry < length sets
      → IsSomeAnd (slice_get sets entry) (λ set. HasEvery (has set))
  free_entry rows_at sets entry holds free there =
      some_weaker (HoldsRows has (rows_at entry)) (λ set. HasEvery (has set)) (slice_get sets entry)
      (λ set held store long. held store long (subst (MeetsAll store) (sym free) (λ k d low. absurd (omega (arith, low)))))
      (holds_at rows_at sets entry holds there)

  past_edges : (P : Edge → Type 0) (label : ℕ) (action : Action) → ((edge : Edge) → P edge) → EachEdge P (edges_from label action)
  past_edges P label ends each = tt
  past_edges P label (assigns x e to) each = (each _, tt)
  past_edges P label (passes to) each = (each _, tt)
  past_edges P label (tests head c yes_label no_label) each = (each _, (each _, tt))

  -- where each label's edges are kept
  pub inductive_by : (body : Statements) (sets : List D) → length sets ≡ length (all_labels body) → IsSomeAnd (slice_get sets (entry_of body)) (λ set. HasEvery (has set))
      → ((label : ℕ) → label < length (all_labels body) → EachEdge (KeepsEdge has body sets label) (edges_from label (action_at body label)))
      → AreInductive has body sets
  inductive_by body sets long entry kept = record {
    labels = long;
    entry = entry;
    edges = λ label. elim (cases_lt label (length (all_labels body))) [
      | inl low ↦ kept label low
      | inr past ↦ past_edges (KeepsEdge has body sets label) label (action_at body label) (λ edge.
          subst (λ found. IfSome found (λ set. IsSomeAnd (slice_get sets edge.to) (λ target. LeadsInto (action_at body label) edge.kind (has set) (has target))))
          (sym (slice_get_past sets label (omega (arith, long, past)))) tt)
    ];
  }

  every_at : (sets : List D) (i : ℕ) → All (λ set. HasEvery (has set)) sets → i < length sets → IsSomeAnd (slice_get sets i) (λ set. HasEvery (has set))
  every_at [] i every low = absurd (omega (arith, low))
  every_at (set ∷ sets) zero every low = All-head (λ set. HasEvery (has set)) set sets every
  every_at (set ∷ sets) (suc i) every low = every_at sets i (All-tail (λ set. HasEvery (has set)) set sets every) (omega (arith, low))

  if_some : {X : Type 0} (P : X → Type 0) (x : Option X) → ((y : X) → P y) → IfSome x P
  if_some P None each = tt
  if_some P (Some y) each = each y

  into_every : (body : Statements) (sets : List D) (label : ℕ) (edge : Edge) → All (λ set. HasEvery (has set)) sets → edge.to < length sets → KeepsEdge has body sets label edge
  into_every body sets label edge every low =
      if_some (λ set. IsSomeAnd (slice_get sets edge.to) (λ target. LeadsInto (action_at body label) edge.kind (has set) (has target))) (slice_get sets label)
      (λ set. some_weaker (λ target. HasEvery (has target)) (λ target. LeadsInto (action_at body label) edge.kind (has set) (has target)) (slice_get sets edge.to)
      (λ target all store next long member step. all next (leads_store (action_at body label) edge.kind store next step long))
      (every_at sets edge.to every low))

  into_tops : (body : Statements) (sets : List D) (label n : ℕ) (action : Action) → LeadsBelow n action → length sets ≡ n → All (λ set. HasEvery (has set)) sets
      → EachEdge (KeepsEdge has body sets label) (edges_from label action)
  into_tops body sets label n ends below long every = tt
  into_tops body sets label n (assigns x e to) below long every = (into_every body sets label (record { from = label; to = to; kind = Assign }) every (omega (arith, below, long)), tt)
  into_tops body sets label n (passes to) below long every = (into_every body sets label (record { from = label; to = to; kind = Skip }) every (omega (arith, below, long)), tt)
  into_tops body sets label n (tests head c yes_label no_label) below long every =
      let first = below.0 in let second = below.1 in (
        into_every body sets label (record { from = label; to = yes_label; kind = Test true }) every (omega (arith, first, long)),
        (into_every body sets label (record { from = label; to = no_label; kind = Test false }) every (omega (arith, second, long)), tt),
      )

  -- sets of all stores
  pub tops_kept : (body : Statements) (sets : List D) → length sets ≡ length (all_labels body) → All (λ set. HasEvery (has set)) sets
      → ((l : ℕ) → l < length (all_labels body) → LeadsBelow (length (all_labels body)) (action_at body l)) → entry_of body < length (all_labels body)
      → AreInductive has body sets
  tops_kept body sets long every below entry =
      inductive_by body sets long (every_at sets (entry_of body) every (omega (arith, long, entry)))
      (λ label low. into_tops body sets label (length (all_labels body)) (action_at body label) (below label low) long every)

-- a list without elements
pub no_rows : (rows : List Row) → (length rows == 0) ≡ true → rows ≡ []
no_rows [] is = refl
no_rows (row ∷ rows) is = absurd (let none : length (row ∷ rows) ≡ 0 = (Decides-eqb (length (row ∷ rows)) 0).0 is in omega (arith, none))

-- what a look-up finds
pub looked_up : {X : Type 0} (xs : List X) (i : ℕ) (x : X) → true ≡ ltb i (length xs) → x ≡ get_or xs i x → slice_get xs i ≡ Some x
looked_up xs i x low is = slice_get_read xs (length xs) i x refl (ltb-true i (length xs) (sym low)) is
