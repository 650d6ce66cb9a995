-- How many conjunctions a test spreads to, counted before any is dropped.
use Rattle.std.specs.Prelude.{ℕ, ◌+◌, ◌*◌, not, Bool, true, false}
use Rattle.step_meaning.specs.declared.expression.Op2.{Op2}
use Rattle.step_meaning.specs.declared.expression.Op2.TheVariants.{Add, Sub, Mul, Less, LessEqual, Greater, GreaterEqual, Equal, NotEqual}
use Rattle.step_meaning.specs.declared.expression.Op2.TheVariants.{And, Or}
use Rattle.step_meaning.specs.Syntax.{Expression, number, variable, free, range, truth, negative, negation, pair, divided}

-- of two operands with these counts for the outcome; an `==` fails, and a `!=` holds, in two ways
abbrev pub count_by : Op2 → Bool → ℕ → ℕ → ℕ
count_by And true a b = a * b
count_by And false a b = a + b
count_by Or true a b = a + b
count_by Or false a b = a * b
count_by Equal false a b = 2
count_by NotEqual true a b = 2
count_by Equal true a b = 1
count_by NotEqual false a b = 1
count_by Add outcome a b = 1
count_by Sub outcome a b = 1
count_by Mul outcome a b = 1
count_by Less outcome a b = 1
count_by LessEqual outcome a b = 1
count_by Greater outcome a b = 1
count_by GreaterEqual outcome a b = 1

abbrev pub conjunctions : Expression → Bool → ℕ
conjunctions (negation c) outcome = conjunctions c (not outcome)
conjunctions (pair op l r) outcome = count_by op outcome (conjunctions l outcome) (conjunctions r outcome)
conjunctions (number z) outcome = 1
conjunctions (variable x) outcome = 1
conjunctions free outcome = 1
conjunctions (range lo hi) outcome = 1
conjunctions (truth b) outcome = 1
conjunctions (negative e) outcome = 1
conjunctions (divided division e b) outcome = 1
