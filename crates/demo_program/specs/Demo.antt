-- The demo programs: a loop that adds the numbers from 1 to n to `a` in each turn, and counts `x` down.
use Rattle.std.specs.Prelude.{ℕ, zero, suc, pos, List, [], ◌∷◌, ◌++◌, codes}
use Rattle.line_text.specs.Numeral.{numeral}
use Rattle.step_meaning.specs.declared.expression.Op2.TheVariants.{Add, Greater, Sub}
use Rattle.step_meaning.specs.Syntax.{Statements, assign, empty, number, pair, sequence, variable, while_loop}

-- ---- as a text

-- `a = a + i; ` for so many numbers i from the first on, and the end
abbrev pub turn_text : (left first : ℕ) → List ℕ
turn_text zero first = codes "x = x - 1; } }"
turn_text (suc left) first = codes "a = a + " ++ (numeral first ++ (codes "; " ++ turn_text left (suc first)))

-- the text of the demo program of a number
abbrev pub demo_text : ℕ → List ℕ
demo_text n = codes "int main() { int a, x; while (x > 0) { " ++ turn_text n 1

-- ---- as a program

-- its names: `a` has the place 0, and `x` the place 1
abbrev pub demo_names : List (List ℕ)
demo_names = codes "a" ∷ (codes "x" ∷ [])

-- `x = x - 1;`
abbrev pub down : Statements
down = sequence (assign 1 (pair Sub (variable 1) (number (pos 1)))) empty

-- `a = a + i;` for so many numbers i from the first on, and then that
abbrev pub turn_from : (left first : ℕ) → Statements
turn_from zero first = down
turn_from (suc left) first = sequence (assign 0 (pair Add (variable 0) (number (pos first)))) (turn_from left (suc first))

-- `while (x > 0) { .. }`
abbrev pub demo_body : ℕ → Statements
demo_body n = sequence (while_loop (pair Greater (variable 1) (number (pos 0))) (turn_from n 1) empty) empty
