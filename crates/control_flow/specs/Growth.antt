-- How large the numbers in the rows of a level's trees may be, by the program alone.
use Rattle.std.specs.Prelude.{ℕ, zero, suc, ◌+◌, ◌*◌, ◌^◌, max, unsigned_abs, true, List, [], ◌∷◌, length}
use Rattle.linear_cons.specs.Functions.{coefficient}
use Rattle.linear_cons.specs.declared.affine.Affine.{Affine}
use Rattle.linear_cons.specs.declared.row.Row.{Row}
use Rattle.step_meaning.specs.Countdown.{form_of}
use Rattle.linear_forms.specs.Spreading.{spread_of}
use Rattle.linear_cons.specs.Sizes.{total_size}
use Rattle.step_meaning.specs.Syntax.{Statements}
use Rattle.control_flow.specs.Labels.{Action, ends, assigns, passes, tests, action_at, all_labels}
use Rattle.control_flow.specs.Measures.{anywhere, greatest_below}

-- the greatest size of a number of the function
unfoldable pub greatest_number : Affine → ℕ
greatest_number a = max (greatest_below (λ place. unsigned_abs (coefficient a place)) 16) (unsigned_abs a.constant)

abbrev pub greatest_of_rows : List Row → ℕ
greatest_of_rows [] = 0
greatest_of_rows (row ∷ more) = max (greatest_number row.affine) (greatest_of_rows more)

abbrev pub greatest_of_conjunctions : List (List Row) → ℕ
greatest_of_conjunctions [] = 0
greatest_of_conjunctions (rows ∷ more) = max (greatest_of_rows rows) (greatest_of_conjunctions more)

-- the greatest size of a number in a row of the label's test
abbrev pub row_size : Action → ℕ
row_size (tests head c then_to else_to) = greatest_of_conjunctions (spread_of anywhere c true)
row_size ends = 0
row_size (assigns x e next) = 0
row_size (passes next) = 0

-- how many times as large the label's assignment makes the numbers of a row: 1 more than the sum of the sizes of its function's numbers
abbrev pub factor : Action → ℕ
factor (assigns x e next) = 1 + total_size (form_of e)
factor ends = 1
factor (passes next) = 1
factor (tests head c then_to else_to) = 1

abbrev pub factor_at : Statements → ℕ → ℕ
factor_at body label = factor (action_at body label)

-- the product of the numbers below n
abbrev pub product_below : (ℕ → ℕ) → ℕ → ℕ
product_below f zero = 1
product_below f (suc n) = product_below f n * f n

-- the greatest size of a number in a row of a test, and 1 more
abbrev pub greatest_of_tests : Statements → ℕ
greatest_of_tests body = greatest_below (λ label. row_size (action_at body label)) (length (all_labels body))

abbrev pub test_size : Statements → ℕ
test_size body = 1 + greatest_of_tests body

-- that, times the factor of each label as often as a row is moved over its assignment, which is once for each test of a loop and once more
abbrev pub growth_of : Statements → ℕ → ℕ
growth_of body level = test_size body * product_below (λ label. factor_at body label ^ (level + 1)) (length (all_labels body))
