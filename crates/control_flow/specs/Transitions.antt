-- What is done at the labels of a program, over what is told of the stores there.
use Rattle.std.specs.Prelude.{◌≡◌, ◌⊎◌, ℕ, ◌<◌, Bool, true, false, List, [], length, slice_index_or, ⊤}
use Rattle.step_meaning.specs.Syntax.{Statements}
use Rattle.linear_cons.specs.declared.bounds.Bounds.{Bounds}
use Rattle.linear_cons.specs.declared.row.Row.{Row}
use Rattle.linear_forms.specs.Linearising.{is_exact, linear_of}
use Rattle.linear_forms.specs.Spreading.{spread_of}
use Rattle.quotient_cases.specs.Cases.{value_rows}
use Rattle.control_flow.specs.declared.edge.Choice.{Choice}
use Rattle.control_flow.specs.declared.edge.Choice.TheVariants.{None as NoChoice}
use Rattle.control_flow.specs.Edges.{choice_of_test, choice_of_value}
use Rattle.control_flow.specs.Labels.{Action, ends, assigns, passes, tests, action_at, all_labels}
use Rattle.control_flow.specs.Told.{Told, chosen_place}
use Rattle.control_flow.specs.declared.transition.Transition.{Transition}
use Rattle.control_flow.specs.declared.transition.Transition.TheVariants.{Assign, Choose, Dead, End, Pass, Test}

-- what is done at the label
abbrev pub transition_in : List Transition → ℕ → Transition
transition_in transitions label = slice_index_or transitions label End

-- it is what the action comes down to over the bounds: an assignment puts the value of a function where nothing is left out of its linear form, else
-- some number of the form's range that meets the rows of a case at the chosen place
abbrev pub IsOver : Bounds → Action → Transition → Type 0
IsOver bounds ends End = ⊤
IsOver bounds (assigns x e next) (Assign place value to) =
    (place.number ≡ x) × (to ≡ next) × (is_exact (linear_of bounds e) ≡ true) × (value ≡ (linear_of bounds e).affine)
IsOver bounds (assigns x e next) (Choose place range choice cases to) =
    (place.number ≡ x) × (to ≡ next) × (is_exact (linear_of bounds e) ≡ false) × (range ≡ linear_of bounds e) × (choice ≡ choice_of_value e)
    × (cases.items ≡ value_rows bounds chosen_place e)
IsOver bounds (passes next) (Pass to) = to ≡ next
IsOver bounds (tests head c then_to else_to) (Test is_head choice holds fails to other) =
    (is_head ≡ head) × (to ≡ then_to) × (other ≡ else_to) × (choice ≡ choice_of_test c)
    × (holds.items ≡ spread_of bounds c true) × (fails.items ≡ spread_of bounds c false)
IsOver bounds action transition = ⊥

-- no run comes there, where that is told, or the transition is over the bounds
abbrev pub IsTold : Bounds → Bool → Action → Transition → Type 0
IsTold bounds true action transition = transition ≡ Dead
IsTold bounds false action transition = IsOver bounds action transition

-- so is each of the list, by what is told of the labels
abbrev pub AreTold : Statements → Told → List Transition → Type 0
AreTold body told transitions = (label : ℕ) → label < length (all_labels body)
    → IsTold (told.bounds label) (told.dead label) (action_at body label) (transition_in transitions label)

-- the conjunctions of rows of an outcome of a test, of which there is none where no test is
abbrev pub conjunctions_in : Transition → Bool → List (List Row)
conjunctions_in (Test head choice holds fails to other) true = holds.items
conjunctions_in (Test head choice holds fails to other) false = fails.items
conjunctions_in transition outcome = []

-- what a claim about some run may choose there
abbrev pub choice_in : Transition → Choice
choice_in (Choose place range choice cases to) = choice
choice_in (Test head choice holds fails to other) = choice
choice_in transition = NoChoice

-- it is the test of a loop
abbrev pub is_head : Transition → Bool
is_head (Test head choice holds fails to other) = head
is_head transition = false

-- no label is one
abbrev pub HasNoHead : List Transition → Type 0
HasNoHead transitions = (label : ℕ) → label < length transitions → is_head (transition_in transitions label) ≡ false

-- nothing is done there
abbrev pub is_idle : Transition → Bool
is_idle End = true
is_idle Dead = true
is_idle transition = false

-- nothing is done there, or it is the test of a loop: the tree of such a label isn't made of those of its successors
abbrev pub is_given : Transition → Bool
is_given End = true
is_given Dead = true
is_given (Test head choice holds fails to other) = head
is_given transition = false

-- the labels that follow; there is no other than 0 where there are none
abbrev pub first_target : Transition → ℕ
first_target (Pass to) = to
first_target (Assign place value to) = to
first_target (Choose place range choice cases to) = to
first_target (Test head choice holds fails to other) = to
first_target transition = 0

abbrev pub second_target : Transition → ℕ
second_target (Pass to) = to
second_target (Assign place value to) = to
second_target (Choose place range choice cases to) = to
second_target (Test head choice holds fails to other) = other
second_target transition = 0

-- both are below the number
abbrev pub LeadsWithin : ℕ → Transition → Type 0
LeadsWithin n transition = (first_target transition < n) × (second_target transition < n)

-- the label that follows is greater, or its tree is given
abbrev pub IsOn : List Transition → ℕ → ℕ → Type 0
IsOn transitions label to = (label < to) ⊎ (is_given (transition_in transitions to) ≡ true)

-- Each label that follows has a transition, and each transition but those at labels with given trees leads on.
pub record AreOnward (transitions : List Transition) : Type 0 where
  pub within : (label : ℕ) → label < length transitions → LeadsWithin (length transitions) (transition_in transitions label)
  pub on : (label : ℕ) → label < length transitions → is_given (transition_in transitions label) ≡ false
      → IsOn transitions label (first_target (transition_in transitions label)) × IsOn transitions label (second_target (transition_in transitions label))
