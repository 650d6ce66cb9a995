-- What a valid program does at its labels, and where its edges lead.
use Rattle.std.specs.Prelude.{◌≡◌, ◌⊎◌, ℕ, suc, ◌<◌, ◌≤◌, true, false, length, ⊤}
use Rattle.step_meaning.specs.Naming.{NamesBelow}
use Rattle.step_meaning.specs.Syntax.{Statements}
use Rattle.step_meaning.specs.Valid.{IsNumber, IsTest}
use Rattle.control_flow.specs.Edges.{is_head_by}
use Rattle.control_flow.specs.Labels.{Action, ends, assigns, passes, tests, action_at, all_labels}

-- an assignment gives a declared variable a number, and a test is one, over `vars` variables
abbrev pub IsSorted : ℕ → Action → Type 0
IsSorted vars ends = ⊤
IsSorted vars (assigns x e next) = (x < vars) × IsNumber vars e
IsSorted vars (passes next) = ⊤
IsSorted vars (tests head c then_to else_to) = IsTest vars c

-- what is assigned, and what is named there, stands at one of the 16 places
abbrev pub IsPlaced : Action → Type 0
IsPlaced ends = ⊤
IsPlaced (assigns x e next) = (x < 16) × NamesBelow 16 e
IsPlaced (passes next) = ⊤
IsPlaced (tests head c then_to else_to) = NamesBelow 16 c

-- each label that follows is below the number
abbrev pub LeadsBelow : ℕ → Action → Type 0
LeadsBelow labels ends = ⊤
LeadsBelow labels (assigns x e next) = next < labels
LeadsBelow labels (passes next) = next < labels
LeadsBelow labels (tests head c then_to else_to) = (then_to < labels) × (else_to < labels)

-- the label is 0, or that of a loop's test
abbrev pub IsDoneFirst : Statements → ℕ → Type 0
IsDoneFirst body label = (label ≡ 0) ⊎ (is_head_by (action_at body label) ≡ true)

-- it is at least n, or is one of these
abbrev pub IsBehind : Statements → ℕ → ℕ → Type 0
IsBehind body n label = (n ≤ label) ⊎ IsDoneFirst body label

-- what is done at the label leads to greater labels, to the tests of loops or to the end, or is itself the test of a loop
abbrev pub LeadsOn : Statements → ℕ → Action → Type 0
LeadsOn body label ends = ⊤
LeadsOn body label (assigns x e next) = IsBehind body (suc label) next
LeadsOn body label (passes next) = IsBehind body (suc label) next
LeadsOn body label (tests true c then_to else_to) = ⊤
LeadsOn body label (tests false c then_to else_to) = IsBehind body (suc label) then_to × IsBehind body (suc label) else_to

-- something holds at each label, at those from n on and those that are done first, at those below n that are done first, and at those that
-- follow
abbrev pub AtAll : Statements → (ℕ → Type 0) → Type 0
AtAll body P = (label : ℕ) → label < length (all_labels body) → P label

abbrev pub AtBehind : Statements → ℕ → (ℕ → Type 0) → Type 0
AtBehind body n P = (label : ℕ) → label < length (all_labels body) → IsBehind body n label → P label

abbrev pub AtFirst : Statements → ℕ → (ℕ → Type 0) → Type 0
AtFirst body n P = (label : ℕ) → label < n → IsDoneFirst body label → P label

abbrev pub AtNext : Action → (ℕ → Type 0) → Type 0
AtNext ends P = ⊤
AtNext (assigns x e next) P = P next
AtNext (passes next) P = P next
AtNext (tests head c then_to else_to) P = P then_to × P else_to
