-- How many nodes the trees of a level may have, by the program alone.
use Rattle.std.specs.Prelude.{◌≡◌, ℕ, zero, suc, ◌+◌, ◌*◌, ◌-◌, ◌^◌, ◌<◌, ◌≤◌, max, min, true, None, List, [], ◌∷◌, length, replicate, if◌then◌else◌}
use Rattle.linear_cons.specs.declared.bounds.Bounds.{Bounds}
use Rattle.linear_cons.specs.declared.row.Row.{Row}
use Rattle.linear_forms.specs.Spreading.{spread_of}
use Rattle.step_meaning.specs.Syntax.{Expression, Statements, number, variable, free, range, truth, negative, negation, pair, divided}
use Rattle.control_flow.specs.Edges.{is_head_by}
use Rattle.control_flow.specs.Labels.{Action, ends, assigns, passes, tests, action_at, all_labels}

-- no place has an end
abbrev pub anywhere : Bounds
anywhere = record { ends = replicate 16 (None, None) }

-- the most leaves of a tree that asks the conjunctions row by row: 1 without any, and for c rows in the first 1 more than c times that of
-- the others
abbrev pub leaves_asking : List (List Row) → ℕ
leaves_asking [] = 1
leaves_asking (rows ∷ more) = 1 + length rows * leaves_asking more

-- the same of a test that holds
abbrev pub leaves_of_test : Expression → ℕ
leaves_of_test c = leaves_asking (spread_of anywhere c true)

-- of a test between trees of these sizes: of a whole `?` the later of both, of another its rows with one of both trees at each leaf
abbrev pub size_of_test : Expression → ℕ → ℕ → ℕ
size_of_test free first second = 4 * (first * second)
size_of_test (number z) first second = 2 * (leaves_of_test (number z) * (first + second + 1))
size_of_test (variable x) first second = 2 * (leaves_of_test (variable x) * (first + second + 1))
size_of_test (range lo hi) first second = 2 * (leaves_of_test (range lo hi) * (first + second + 1))
size_of_test (truth b) first second = 2 * (leaves_of_test (truth b) * (first + second + 1))
size_of_test (negative e) first second = 2 * (leaves_of_test (negative e) * (first + second + 1))
size_of_test (negation c) first second = 2 * (leaves_of_test (negation c) * (first + second + 1))
size_of_test (pair op l r) first second = 2 * (leaves_of_test (pair op l r) * (first + second + 1))
size_of_test (divided division e b) first second = 2 * (leaves_of_test (divided division e b) * (first + second + 1))

-- the size where this is done, by the sizes at the labels that follow: a step adds 1
abbrev pub size_before : (ℕ → ℕ) → Action → ℕ
size_before behind ends = 1
size_before behind (assigns x e next) = behind next + 1
size_before behind (passes next) = behind next + 1
size_before behind (tests head c then_to else_to) = size_of_test c (behind then_to) (behind else_to)

-- the same at a level: the test of a loop asks the sizes of the level before, and is of size 1 where there is none
abbrev pub size_by : (ℕ → ℕ → ℕ) → ℕ → Action → ℕ
size_by sizes zero action = if is_head_by action then 1 else size_before (sizes zero) action
size_by sizes (suc level) action = size_before (sizes (if is_head_by action then level else suc level)) action

-- the sizes at each level and label keep to these rules
abbrev pub AreSizes : Statements → (ℕ → ℕ → ℕ) → Type 0
AreSizes body sizes =
    (level label : ℕ) → label < length (all_labels body) → sizes level label ≡ size_by sizes level (action_at body label)

-- the greatest of the numbers below n
abbrev pub greatest_below : (ℕ → ℕ) → ℕ → ℕ
greatest_below f zero = 0
greatest_below f (suc n) = max (greatest_below f n) (f n)

-- the weight of a level: the greatest size at a label
abbrev pub weight_by : Statements → (ℕ → ℕ → ℕ) → ℕ → ℕ
weight_by body sizes level = greatest_below (sizes level) (length (all_labels body))

-- the number is the weight of a level, or the last one of 128 bits where that is less
abbrev pub IsWeight : Statements → ℕ → ℕ → Type 0
IsWeight body level n = (sizes : ℕ → ℕ → ℕ) → AreSizes body sizes → n ≡ min (weight_by body sizes level) (2 ^ 128 - 1)

-- the weight of a level is above 65,536, or is at most that
abbrev pub IsHeavy : Statements → ℕ → Type 0
IsHeavy body level = (sizes : ℕ → ℕ → ℕ) → AreSizes body sizes → 65536 < weight_by body sizes level

abbrev pub IsLight : Statements → ℕ → Type 0
IsLight body level = (sizes : ℕ → ℕ → ℕ) → AreSizes body sizes → weight_by body sizes level ≤ 65536
