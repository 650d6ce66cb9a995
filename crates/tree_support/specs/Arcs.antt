-- The edges of a program as the check follows them: one arc for each conjunction that an edge's test spreads to, or that its assignment's value comes down to.
use Rattle.std.specs.Prelude.{ℕ, ℤ, Bool, true, false, List, [], ◌∷◌, ◌++◌, map, Option, None, Some, if◌then◌else◌}
use Rattle.step_meaning.specs.Syntax.{Statements}
use Rattle.linear_cons.specs.declared.affine.Affine.{Affine}
use Rattle.linear_cons.specs.declared.bounds.Bounds.{Bounds}
use Rattle.linear_cons.specs.declared.bounds.Linear.{Linear}
use Rattle.linear_cons.specs.declared.row.Row.{Row}
use Rattle.linear_cons.specs.Functions.{constant_of, variable_at}
use Rattle.linear_forms.specs.Linearising.{is_exact, linear_of}
use Rattle.linear_forms.specs.Spreading.{spread_of}
use Rattle.quotient_cases.specs.Cases.{value_rows}
use Rattle.control_flow.specs.declared.edge.Choice.{Choice}
use Rattle.control_flow.specs.Edges.{choice_by}
use Rattle.control_flow.specs.Labels.{Action, ends, assigns, passes, tests, action_at}
use Rattle.control_flow.specs.Told.{chosen_place}
use Rattle.control_flow.specs.declared.transition.Transition.{Transition}
use Rattle.control_flow.specs.declared.transition.Transition.TheVariants.{Assign, Choose, Dead, End, Pass, Test}
use Rattle.constraint_stack.specs.Forming.{Formed, given, plus, minus}

-- an edge with one of its conjunctions: its number among the edges of its label, the label that it leads to, what it asks of a store, and
-- the place that it sets to the value of a function, if it sets one
pub record Arc : Type 0 where
  pub edge : ℕ
  pub target : ℕ
  pub asks : List Formed
  pub sets : Option (ℕ × Affine)

abbrev pub rows_given : List Row → List Formed
rows_given rows = map (λ (row : Row). given row.affine) rows

-- the chosen value is at least, or at most, the function's value and the end
abbrev pub above_end : Affine → Option ℤ → List Formed
above_end a None = []
above_end a (Some lo) = minus (given (variable_at chosen_place)) (plus (given a) (given (constant_of lo))) ∷ []

abbrev pub below_end : Affine → Option ℤ → List Formed
below_end a None = []
below_end a (Some hi) = minus (plus (given a) (given (constant_of hi))) (given (variable_at chosen_place)) ∷ []

-- an assignment: the place gets the value of a function, or a chosen value that lies between the ends of a linear form and meets rows with the store
abbrev pub putting : ℕ → ℕ → Affine → Arc
putting x next a = record { edge = 0; target = next; asks = []; sets = Some (x, a) }

abbrev pub choosing : ℕ → ℕ → Linear → List Row → Arc
choosing x next value rows = record {
  edge = 0;
  target = next;
  asks = above_end value.affine value.lo ++ (below_end value.affine value.hi ++ rows_given rows);
  sets = Some (x, variable_at chosen_place);
}

-- the one where the form is exact, else the other for each case of the value
abbrev pub choosing_each : ℕ → ℕ → Linear → List (List Row) → List Arc
choosing_each x next value cases = map (λ rows. choosing x next value rows) cases

abbrev pub assigning : ℕ → ℕ → Linear → List (List Row) → List Arc
assigning x next value cases = if is_exact value then putting x next value.affine ∷ [] else choosing_each x next value cases

-- an edge that changes nothing
abbrev pub passing : ℕ → Arc
passing next = record { edge = 0; target = next; asks = []; sets = None }

-- the edge of an outcome of a test
abbrev pub testing : ℕ → ℕ → List (List Row) → List Arc
testing edge next conjunctions = map (λ rows. record { edge = edge; target = next; asks = rows_given rows; sets = None }) conjunctions

-- The arcs of a label at which this is done, over the bounds of its invariant: those of the true outcome of a test are numbered 0, those of
-- the false one 1. Label 0 has one to itself.
abbrev pub arcs_by : Bounds → Action → List Arc
arcs_by bounds ends = passing 0 ∷ []
arcs_by bounds (assigns x e next) = assigning x next (linear_of bounds e) (value_rows bounds chosen_place e)
arcs_by bounds (passes next) = passing next ∷ []
arcs_by bounds (tests head c then_to else_to) = testing 0 then_to (spread_of bounds c true) ++ testing 1 else_to (spread_of bounds c false)

-- the arcs of one outcome of a test
abbrev pub arcs_of_outcome : Bounds → Action → Bool → List Arc
arcs_of_outcome bounds ends outcome = []
arcs_of_outcome bounds (assigns x e next) outcome = []
arcs_of_outcome bounds (passes next) outcome = []
arcs_of_outcome bounds (tests head c then_to else_to) true = testing 0 then_to (spread_of bounds c true)
arcs_of_outcome bounds (tests head c then_to else_to) false = testing 1 else_to (spread_of bounds c false)

-- the arc of an assignment that puts the value of this function
abbrev pub arcs_putting : Action → Affine → List Arc
arcs_putting ends a = []
arcs_putting (assigns x e next) a = putting x next a ∷ []
arcs_putting (passes next) a = []
arcs_putting (tests head c then_to else_to) a = []

-- the arcs at the labels of a program, by all edges, by one outcome of a test, and by a value put; and what may be chosen there
pub record Flow : Type 0 where
  pub arcs : ℕ → List Arc
  pub arcs_of : ℕ → Bool → List Arc
  pub arcs_with : ℕ → Affine → List Arc
  pub choice : ℕ → Choice

-- those of a program with this body, where the invariants have these bounds
abbrev pub flow_of : Statements → (ℕ → Bounds) → Flow
flow_of body bounds = record {
  arcs = λ label. arcs_by (bounds label) (action_at body label);
  arcs_of = λ label outcome. arcs_of_outcome (bounds label) (action_at body label) outcome;
  arcs_with = λ label a. arcs_putting (action_at body label) a;
  choice = λ label. choice_by (action_at body label);
}

-- the arcs of a transition; those of one outcome of a test; and that of an assignment which puts the value of this function
abbrev pub arcs_of : Transition → List Arc
arcs_of End = passing 0 ∷ []
arcs_of Dead = []
arcs_of (Pass to) = passing to ∷ []
arcs_of (Assign place value to) = putting place.number to value ∷ []
arcs_of (Choose place range choice cases to) = choosing_each place.number to range cases.items
arcs_of (Test head choice holds fails to other) = testing 0 to holds.items ++ testing 1 other fails.items

abbrev pub outcome_arcs : Transition → Bool → List Arc
outcome_arcs (Test head choice holds fails to other) true = testing 0 to holds.items
outcome_arcs (Test head choice holds fails to other) false = testing 1 other fails.items
outcome_arcs transition outcome = []

abbrev pub value_arcs : Transition → Affine → List Arc
value_arcs (Assign place value to) a = putting place.number to a ∷ []
value_arcs (Choose place range choice cases to) a = putting place.number to a ∷ []
value_arcs transition a = []
