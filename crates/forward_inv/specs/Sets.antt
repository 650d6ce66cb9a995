-- Sets of stores, one for each label of a program, and what the edges do to them. A set is what says which stores are its members.
use Rattle.std.specs.Prelude.{◌≡◌, ℕ, zero, suc, ℤ, Bool, false, List, [], ◌∷◌, ◌++◌, length, Option, None, Some, if◌then◌else◌, slice_get, slice_index_or, IfSome, IsSomeAnd}
use Rattle.step_meaning.specs.Syntax.{Statements}
use Rattle.step_meaning.specs.Outcome.{Store}
use Rattle.linear_cons.specs.declared.bounds.Bounds.{Bounds}
use Rattle.linear_cons.specs.declared.row.Row.{Row}
use Rattle.linear_cons.specs.Rows.{MeetsAll}
use Rattle.linear_forms.specs.Meeting.{MeetsOne}
use Rattle.num_domain.specs.Domain.{HasEvery, IsStore}
use Rattle.control_flow.specs.declared.edge.Edge.{Edge}
use Rattle.control_flow.specs.declared.edge.EdgeKind.{EdgeKind}
use Rattle.control_flow.specs.Actions.{IsPlaced}
use Rattle.control_flow.specs.Edges.{EachEdge, Leads, edges_from}
use Rattle.control_flow.specs.Labels.{Action, action_at, all_labels, entry_of}
use Rattle.control_flow.specs.Transitions.{IsOver}
use Rattle.control_flow.specs.declared.transition.Transition.{Transition}

-- a set that isn't there has no member
abbrev pub IsMemberOf : {D : Type 0} → (D → List ℤ → Type 0) → Option D → List ℤ → Type 0
IsMemberOf has None store = ⊥
IsMemberOf has (Some set) store = has set store

-- the new set has each store of the old one, or each of those that meet all rows of one of the lists
abbrev pub KeepsMembers : (List ℤ → Type 0) → (List ℤ → Type 0) → Type 0
KeepsMembers old new = (store : List ℤ) → IsStore store → old store → new store

abbrev pub KeepsMeetingOne : List (List Row) → (List ℤ → Type 0) → (List ℤ → Type 0) → Type 0
KeepsMeetingOne lists old new = (store : List ℤ) → IsStore store → old store → MeetsOne store lists → new store

-- the new set has each store to which an edge of the kind leads from one of the old one, where this is done at its label
abbrev pub LeadsInto : Action → EdgeKind → (List ℤ → Type 0) → (List ℤ → Type 0) → Type 0
LeadsInto action kind old new = (store next : Store) → IsStore store → old store → Leads action kind store next → new next

-- so by a transition that the action, whatever it is, comes down to over the bounds
abbrev pub LeadsBy : Bounds → Transition → EdgeKind → (List ℤ → Type 0) → (List ℤ → Type 0) → Type 0
LeadsBy bounds transition kind old new =
    (action : Action) → IsPlaced action → IsOver bounds action transition → LeadsInto action kind old new

-- each store that meets all rows is a member
abbrev pub HoldsRows : {D : Type 0} → (D → List ℤ → Type 0) → List Row → D → Type 0
HoldsRows has rows set = (store : List ℤ) → IsStore store → MeetsAll store rows → has set store

-- so for each of the sets and the rows of its label
abbrev pub HoldEach : {D : Type 0} → (D → List ℤ → Type 0) → (ℕ → List Row) → List D → Type 0
HoldEach {D = D} has rows_at sets = (label : ℕ) (set : D) → slice_get sets label ≡ Some set → HoldsRows has (rows_at label) set

-- the row, if there is one
abbrev pub listed : Option Row → List Row
listed None = []
listed (Some row) = row ∷ []

-- of the first n rows those that have their mark
unfoldable pub marked_below : ℕ → List Row → List Bool → List Row
marked_below zero rows marks = []
marked_below (suc n) rows marks = marked_below n rows marks ++ (if slice_index_or marks n false then listed (slice_get rows n) else [])

-- of the rows of a guess those that have their mark, where there is a guess, and there are marks for it
abbrev pub rows_kept : {D : Type 0} → (D → List Row) → Option D → Option (List Bool) → List Row
rows_kept told (Some guess) (Some marks) = marked_below (length (told guess)) (told guess) marks
rows_kept told _ _ = []

-- for each label those of its guess
abbrev pub kept_at : {D : Type 0} → (D → List Row) → List D → List (List Bool) → ℕ → List Row
kept_at told guesses marks label = rows_kept told (slice_get guesses label) (slice_get marks label)

-- the edge from the label leads from its set, where it has one, into that of its target, which is there
abbrev pub KeepsEdge : {D : Type 0} → (D → List ℤ → Type 0) → Statements → List D → ℕ → Edge → Type 0
KeepsEdge has body sets label edge =
    IfSome (slice_get sets label) (λ set.
    IsSomeAnd (slice_get sets edge.to) (λ target. LeadsInto (action_at body label) edge.kind (has set) (has target)))

-- Sets for the labels of a program with this body, of which that of the entry has every store, and into which each edge leads from that of
-- its label.
pub record AreInductive {D : Type 0} (has : D → List ℤ → Type 0) (body : Statements) (sets : List D) : Type 0 where
  pub labels : length sets ≡ length (all_labels body)
  pub entry : IsSomeAnd (slice_get sets (entry_of body)) (λ set. HasEvery (has set))
  pub edges : (label : ℕ) → EachEdge (KeepsEdge has body sets label) (edges_from label (action_at body label))
