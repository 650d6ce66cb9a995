-- What is done at the labels of a plain program whose numbers fit, as the trees of a level read it: whatever is known of the stores there, a
-- value is one function, and an outcome of a test comes down to the same conjunctions of rows.
use Rattle.std.specs.Prelude.{◌≡◌, ℕ, ◌<◌, true, false, List, length, ⊤}
use Rattle.step_meaning.specs.Countdown.{form_of}
use Rattle.step_meaning.specs.Syntax.{Expression, Statements}
use Rattle.linear_cons.specs.declared.row.Row.{Row}
use Rattle.linear_forms.specs.Spreading.{spread_of}
use Rattle.control_flow.specs.Labels.{Action, ends, assigns, passes, tests, action_at, all_labels}
use Rattle.control_flow.specs.Measures.{anywhere}
use Rattle.control_flow.specs.Transitions.{transition_in}
use Rattle.control_flow.specs.declared.transition.Transition.{Transition}
use Rattle.control_flow.specs.declared.transition.Transition.TheVariants.{Assign, End, Pass, Test}

-- the conjunctions are those of the outcomes of the test
abbrev pub AreOf : Expression → List (List Row) → List (List Row) → Type 0
AreOf c holds fails = (holds ≡ spread_of anywhere c true) × (fails ≡ spread_of anywhere c false)

-- the transition does what the action does
abbrev pub Does : Action → Transition → Type 0
Does ends End = ⊤
Does (assigns x e next) (Assign place value to) = (place.number ≡ x) × (to ≡ next) × (value ≡ form_of e)
Does (passes next) (Pass to) = to ≡ next
Does (tests head c then_to else_to) (Test is_head choice holds fails to other) = (to ≡ then_to) × (other ≡ else_to) × AreOf c holds.items fails.items
Does action transition = ⊥

-- there is one for each label
pub record AreDone (body : Statements) (transitions : List Transition) : Type 0 where
  pub count : length transitions ≡ length (all_labels body)
  pub each : (label : ℕ) → label < length (all_labels body) → Does (action_at body label) (transition_in transitions label)
