-- The edges between labels, and the steps that they are.
use Rattle.std.specs.Prelude.{◌≡◌, ℕ, ℤ, Bool, true, false, ◌⊎◌, List, [], ◌∷◌, Option, None, Some, slice_set, ⊤}
use Rattle.step_meaning.specs.Syntax.{Statements, Expression, free, range}
use Rattle.step_meaning.specs.Outcome.{Store, May, MayTest}
use Rattle.step_meaning.specs.Step.{Configuration, Step, front}
use Rattle.control_flow.specs.declared.edge.Choice.{Choice}
use Rattle.control_flow.specs.declared.edge.Choice.TheVariants.{None as NoChoice, Branch, Range as AnyOf}
use Rattle.control_flow.specs.declared.edge.Edge.{Edge}
use Rattle.control_flow.specs.declared.edge.EdgeKind.{EdgeKind}
use Rattle.control_flow.specs.declared.edge.EdgeKind.TheVariants.{Assign, Test, Skip}
use Rattle.control_flow.specs.Labels.{Action, ends, assigns, passes, tests, action_at, rest}

-- the edges from a label at which this is done: none, one, or that of the true outcome and then that of the false one
abbrev pub edges_from : ℕ → Action → List (Option Edge)
edges_from l ends = None ∷ None ∷ []
edges_from l (assigns x e next) = Some (record { from = l; to = next; kind = Assign }) ∷ None ∷ []
edges_from l (passes next) = Some (record { from = l; to = next; kind = Skip }) ∷ None ∷ []
edges_from l (tests head c then_to else_to) =
    Some (record { from = l; to = then_to; kind = Test true }) ∷ Some (record { from = l; to = else_to; kind = Test false }) ∷ []

-- some edge of the list is such, and each of them is
abbrev pub SomeEdge : (Edge → Type 0) → List (Option Edge) → Type 0
SomeEdge P [] = ⊥
SomeEdge P (None ∷ more) = SomeEdge P more
SomeEdge P (Some edge ∷ more) = P edge ⊎ SomeEdge P more

abbrev pub EachEdge : (Edge → Type 0) → List (Option Edge) → Type 0
EachEdge P [] = ⊤
EachEdge P (None ∷ more) = EachEdge P more
EachEdge P (Some edge ∷ more) = P edge × EachEdge P more

-- an edge of this kind, from a label at which this is done, may lead from the one store to the other
abbrev pub Leads : Action → EdgeKind → Store → Store → Type 0
Leads (assigns x e next) Assign s t = (v : ℤ) × May e s v × (t ≡ slice_set s x v)
Leads (passes next) Skip s t = t ≡ s
Leads (tests head c then_to else_to) (Test outcome) s t = MayTest c s outcome × (t ≡ s)
Leads _ _ s t = ⊥

-- the configuration of a label and a store
abbrev pub configuration : Statements → ℕ → Store → Configuration
configuration body l s = record { todo = rest body l; store = s }

-- an edge from the label leads from the store to the configuration, whose list has the same front as that of the edge's target
abbrev pub Reached : Statements → ℕ → Store → Configuration → Edge → Type 0
Reached body l s d edge = Leads (action_at body l) edge.kind s d.store × (front d.todo ≡ front (rest body edge.to))

-- the steps from a label's configurations are those of its edges and no others
pub record EdgesAreSteps (body : Statements) (l : ℕ) : Type 0 where
  pub each_step : (s : Store) (d : Configuration) → Step (configuration body l s) d
      → SomeEdge (Reached body l s d) (edges_from l (action_at body l))
  pub each_edge : EachEdge
      (λ edge. (s t : Store) → Leads (action_at body l) edge.kind s t
      → (d : Configuration) × Step (configuration body l s) d × (d.store ≡ t) × (front d.todo ≡ front (rest body edge.to)))
      (edges_from l (action_at body l))

-- what the readers of a graph tell of what is done at a label
abbrev pub is_head_by : Action → Bool
is_head_by (tests head c then_to else_to) = head
is_head_by _ = false

abbrev pub test_by : Action → Option Expression
test_by (tests head c then_to else_to) = Some c
test_by _ = None

abbrev pub assigned_by : Action → Option (ℕ × Expression)
assigned_by (assigns x e next) = Some (x, e)
assigned_by _ = None

-- what an existential formula may choose at a label: the outcome of a whole test `?`, or the number of a whole right side that is `?` or
-- a range
abbrev pub choice_of_test : Expression → Choice
choice_of_test free = Branch
choice_of_test _ = NoChoice

abbrev pub choice_of_value : Expression → Choice
choice_of_value free = AnyOf None None
choice_of_value (range lo hi) = AnyOf lo hi
choice_of_value _ = NoChoice

abbrev pub choice_by : Action → Choice
choice_by (tests head c then_to else_to) = choice_of_test c
choice_by (assigns x e next) = choice_of_value e
choice_by _ = NoChoice

-- a step leads from the label's configuration with the store `s` to one with the store `t` and the front of the label `next`
abbrev pub LandsAt : Statements → ℕ → Store → Store → ℕ → Type 0
LandsAt body l s t next =
    (d : Configuration) × Step (configuration body l s) d × (d.store ≡ t) × (front d.todo ≡ front (rest body next))

-- steps that change no store lead to each of the two labels
abbrev pub BothTaken : Statements → ℕ → ℕ → ℕ → Store → Type 0
BothTaken body l yes_label no_label s = LandsAt body l s s yes_label × LandsAt body l s s no_label
