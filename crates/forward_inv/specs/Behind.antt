-- Labels behind one row: a run reaches them over one edge alone, that of a test's outcome which comes down to the row.
use Rattle.std.specs.Prelude.{◌≡◌, ◌≢◌, ℕ, ◌<◌, ℤ, Bool, List, [], ◌∷◌, Option, None, Some, length, slice_get, slice_set, slice_index_or, IfSome, ⊤}
use Rattle.step_meaning.specs.Syntax.{Expression, Statements}
use Rattle.step_meaning.specs.Outcome.{Store}
use Rattle.step_meaning.specs.declared.expression.Op2.{Op2}
use Rattle.step_meaning.specs.declared.expression.Op2.TheVariants.{Add, Sub, Mul, Less, LessEqual, Greater, GreaterEqual, Equal, NotEqual, And, Or}
use Rattle.linear_cons.specs.declared.affine.Affine.{Affine}
use Rattle.linear_cons.specs.declared.bounds.Bounds.{Bounds}
use Rattle.linear_cons.specs.declared.row.Row.{Row}
use Rattle.linear_cons.specs.Rows.{Meets}
use Rattle.linear_cons.specs.Ends.{exactly}
use Rattle.linear_forms.specs.Spreading.{all_rows_of, claims, comparison_for, spread_of}
use Rattle.num_domain.specs.Domain.{AllMeet, IsPlain}
use Rattle.control_flow.specs.declared.edge.Edge.{Edge}
use Rattle.control_flow.specs.declared.edge.EdgeKind.TheVariants.{Test}
use Rattle.control_flow.specs.Edges.{SomeEdge, edges_from, test_by}
use Rattle.control_flow.specs.Labels.{action_at, entry_of}
use Rattle.forward_inv.specs.declared.behind.Entering.{Entering}
use Rattle.forward_inv.specs.declared.behind.Entering.TheVariants.{NoEdge, OneEdge, Several}
use Rattle.control_flow.specs.States.{IsReachedState}

-- the edge is one of those of a program with this body
abbrev pub IsEdgeOf : Statements → Edge → Type 0
IsEdgeOf body edge = SomeEdge (λ other. other ≡ edge) (edges_from edge.from (action_at body edge.from))

-- of the edges that are such this one, and no other, leads to the label
pub record IsOnlyEdge (such : Edge → Type 0) (label : ℕ) (edge : Edge) : Type 0 where
  pub is : such edge
  pub leads : edge.to ≡ label
  pub only : (other : Edge) → such other → other.to ≡ label → other ≡ edge

-- The label isn't the entry; one edge alone leads to it, that of an outcome of a test; and whatever the bounds are, the outcome comes down
-- to this row alone, which has one variable and a constant of at most 2^64 in size.
pub record IsBehind (body : Statements) (label : ℕ) (row : Row) : Type 0 where
  pub edge : Edge
  pub test : Expression
  pub outcome : Bool
  pub inner : label ≢ entry_of body
  pub only : IsOnlyEdge (IsEdgeOf body) label edge
  pub kind : edge.kind ≡ Test outcome
  pub asked : test_by (action_at body edge.from) ≡ Some test
  pub spreads : (bounds : Bounds) → spread_of bounds test outcome ≡ (row ∷ []) ∷ []
  pub plain : (place : ℕ) × IsPlain row place

-- where the label lies behind a row, each member of its set meets it
abbrev pub MeetsBehind : {D : Type 0} → (D → List ℤ → Type 0) → Statements → List D → ℕ → Type 0
MeetsBehind has body states label =
    (row : Row) → IsBehind body label row → IfSome (slice_get states label) (λ state. AllMeet row (has state))

-- each store with which the label is reached meets the row, whatever number is put at place 15
abbrev pub IsMetOnArrival : ℕ → Statements → ℕ → Row → Type 0
IsMetOnArrival vars body label row = (store : Store) (z : ℤ) → IsReachedState vars body label store → Meets (slice_set store 15 z) row

-- of the edges that are such none leads to the label, this one alone does, or two different ones do
abbrev pub IsEntering : (Edge → Type 0) → ℕ → Entering → Type 0
IsEntering such label NoEdge = (edge : Edge) → such edge → edge.to ≡ label → ⊥
IsEntering such label (OneEdge edge) = IsOnlyEdge such label edge
IsEntering such label Several =
    (first : Edge) × (second : Edge) × such first × such second × (first.to ≡ label) × (second.to ≡ label) × (first ≢ second)

-- so of each of the labels below a number
pub record AreEntering (such : Edge → Type 0) (labels : ℕ) (all : List Entering) : Type 0 where
  pub long : length all ≡ labels
  pub each : (label : ℕ) → label < labels → IsEntering such label (slice_index_or all label NoEdge)

-- so many labels, of which no edge is taken down
abbrev pub AreUnentered : ℕ → List Entering → Type 0
AreUnentered labels all = (length all ≡ labels) × ((label : ℕ) → slice_index_or all label NoEdge ≡ NoEdge)

-- what leads to a label with one edge more, and to each label with an edge more, if there is one
abbrev pub entered_by : Entering → Edge → Entering
entered_by NoEdge edge = OneEdge edge
entered_by (OneEdge other) edge = Several
entered_by Several edge = Several

abbrev pub noted : List Entering → Option Edge → List Entering
noted all None = all
noted all (Some edge) = slice_set all edge.to (entered_by (slice_index_or all edge.to NoEdge) edge)

-- `<`, `<=`, `>` or `>=`
abbrev pub IsInequality : Op2 → Type 0
IsInequality Less = ⊤
IsInequality LessEqual = ⊤
IsInequality Greater = ⊤
IsInequality GreaterEqual = ⊤
IsInequality Equal = ⊥
IsInequality NotEqual = ⊥
IsInequality Add = ⊥
IsInequality Sub = ⊥
IsInequality Mul = ⊥
IsInequality And = ⊥
IsInequality Or = ⊥

-- the conjunctions of a comparison of two functions for an outcome
abbrev pub compared : Op2 → Affine → Affine → Bool → List (List Row)
compared op a b outcome = all_rows_of (claims (comparison_for outcome op) (exactly a) (exactly b))
