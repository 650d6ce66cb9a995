-- Guarded programs: those whose statements are done where each variable is a number of 32 bits.
use Rattle.std.specs.Prelude.{ℕ, zero, suc, true}
use Rattle.step_meaning.specs.declared.expression.Op2.TheVariants.{And, GreaterEqual, LessEqual}
use Rattle.step_meaning.specs.Syntax.{Expression, number, pair, truth, variable, Statements, empty, if_else, sequence}
use Rattle.int_fit.specs.Narrowing.{greatest_int, least_int}

-- the variable at the place is one
abbrev pub is_small_variable : ℕ → Expression
is_small_variable place = pair And (pair GreaterEqual (variable place) (number least_int)) (pair LessEqual (variable place) (number greatest_int))

-- each of the first variables is
unfoldable pub are_small_variables : ℕ → Expression
are_small_variables zero = truth true
are_small_variables (suc n) = pair And (are_small_variables n) (is_small_variable n)

-- the statements, which are done where each of so many variables is
abbrev pub guarded : ℕ → Statements → Statements
guarded vars body = sequence (if_else (are_small_variables vars) body empty) empty
