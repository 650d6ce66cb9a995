-- What is known while sizes are reckoned: each number is kept as long as the type holds it, and else as the type's last.
use Rattle.std.specs.Prelude.{◌≡◌, ℕ, ◌-◌, ◌^◌, ◌<◌, min, List, length, slice_index_or}
use Rattle.step_meaning.specs.Syntax.{Statements}
use Rattle.control_flow.specs.Labels.{Action, ends, assigns, passes, tests, action_at, all_labels}
use Rattle.control_flow.specs.Actions.{AtAll}
use Rattle.control_flow.specs.Measures.{AreSizes, leaves_of_test}

-- the number, or the type's last value where that is less
abbrev pub held : ℕ → ℕ
held n = min n (2 ^ 128 - 1)

abbrev pub held_at : List ℕ → ℕ → ℕ
held_at list label = slice_index_or list label 0

-- for each label the most leaves of its test
abbrev pub leaves_at : Action → ℕ
leaves_at (tests head c then_to else_to) = leaves_of_test c
leaves_at ends = 1
leaves_at (assigns x e next) = 1
leaves_at (passes next) = 1

pub record AreLeaves (body : Statements) (leaves : List ℕ) : Type 0 where
  pub count : length leaves ≡ length (all_labels body)
  pub each : (label : ℕ) → label < length (all_labels body) → held_at leaves label ≡ held (leaves_at (action_at body label))

-- the list has the label's size
abbrev pub HoldsAt : (ℕ → ℕ) → List ℕ → ℕ → Type 0
HoldsAt sizes list label = held_at list label ≡ held (sizes label)

-- the list has each label's size at the level
abbrev pub HasSizes : Statements → ℕ → List ℕ → Type 0
HasSizes body level list = (sizes : ℕ → ℕ → ℕ) → AreSizes body sizes → AtAll body (HoldsAt (sizes level) list)
