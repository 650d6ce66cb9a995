-- Countdown programs: those without loops, and those with one loop that counts an affine function down.
use Rattle.std.specs.Prelude.{◌≡◌, ℕ, ◌+◌, ◌*◌, ◌^◌, ◌<◌, ◌≤◌, ◌==◌, ℤ, pos, neg_ℤ, ◌*ℤ◌, ◌<ℤ◌, unsigned_abs, Bool, false, if◌then◌else◌, Option, None, Some, ◌⊎◌, ⊤}
use Rattle.linear_cons.specs.declared.affine.Affine.{Affine}
use Rattle.linear_cons.specs.declared.row.Row.{Row}
use Rattle.linear_cons.specs.declared.row.RowKind.TheVariants.{Row as Kept}
use Rattle.linear_cons.specs.Functions.{coefficient}
use Rattle.linear_cons.specs.Numbers.{at_places}
use Rattle.linear_cons.specs.Rows.{IsRowOf}
use Rattle.linear_cons.specs.Sizes.{total_size}
use Rattle.step_meaning.specs.declared.countdown.Countdown.{Countdown}
use Rattle.step_meaning.specs.declared.countdown.Countdown.TheVariants.{Straight, Loop}
use Rattle.step_meaning.specs.declared.expression.Op2.{Op2}
use Rattle.step_meaning.specs.declared.expression.Op2.TheVariants.{Add, Sub, Mul, Less, LessEqual, Greater, GreaterEqual, Equal, NotEqual, And, Or}
use Rattle.step_meaning.specs.Syntax.{Expression, number, variable, free, range, divided, truth, negative, negation, pair, Statement, Statements, assign, skip, return, break, continue, if_else, while_loop, do_while, empty, sequence}
use Rattle.step_meaning.specs.AffineExpressions.{IsAffine, ExpressionFits, ComparisonFits, coefficient_in, constant_in, less, strictly_less}
use Rattle.step_meaning.specs.Counts.{HasNoLoop, before, none}

-- ---- functions and their sizes

-- the function that an affine expression is
abbrev pub form_of : Expression → Affine
form_of e = record { coef = at_places (λ place. coefficient_in e place); constant = constant_in e }

-- What follows has no part in the headline.

-- each number is at most 2^31 in size
pub record IsSmall (e : Affine) : Type 0 where
  pub coefficients : (place : ℕ) → place < 16 → unsigned_abs (coefficient e place) ≤ 2 ^ 31
  pub constants : unsigned_abs e.constant ≤ 2 ^ 31

-- ---- the rows that a test asks

-- what `e >= 0` is, is the row
abbrev pub IsRow : Expression → Row → Type 0
IsRow e row = IsRowOf (form_of e) (Kept row)

-- the row is that of a comparison of `a` with `b`, and of `==` one of its two; `!=` asks for none
abbrev pub AsksByComparing : Op2 → Expression → Expression → Row → Type 0
AsksByComparing GreaterEqual a b row = IsRow (less a b) row
AsksByComparing Greater a b row = IsRow (strictly_less a b) row
AsksByComparing LessEqual a b row = IsRow (less b a) row
AsksByComparing Less a b row = IsRow (strictly_less b a) row
AsksByComparing Equal a b row = IsRow (less a b) row ⊎ IsRow (less b a) row
AsksByComparing NotEqual a b row = ⊥
AsksByComparing Add a b row = ⊥
AsksByComparing Sub a b row = ⊥
AsksByComparing Mul a b row = ⊥
AsksByComparing And a b row = ⊥
AsksByComparing Or a b row = ⊥

-- what is said of `&&` is said of its operands as tests, what is said of a comparison of its operands as numbers; of no other operator
-- anything is said
abbrev pub OfConjunction : Op2 → Type 0 → Type 0 → Type 0
OfConjunction And tests numbers = tests
OfConjunction Less tests numbers = numbers
OfConjunction LessEqual tests numbers = numbers
OfConjunction Greater tests numbers = numbers
OfConjunction GreaterEqual tests numbers = numbers
OfConjunction Equal tests numbers = numbers
OfConjunction NotEqual tests numbers = numbers
OfConjunction Or tests numbers = ⊥
OfConjunction Add tests numbers = ⊥
OfConjunction Sub tests numbers = ⊥
OfConjunction Mul tests numbers = ⊥

-- the test, a comparison or a nest of `&&`, asks for the row by an affine comparison whose numbers fit
abbrev pub Asks : Expression → Row → Type 0
Asks (pair op a b) row =
    OfConjunction op (Asks a row ⊎ Asks b row) (IsAffine a × IsAffine b × ComparisonFits a b × AsksByComparing op a b row)
Asks (number z) row = ⊥
Asks (variable x) row = ⊥
Asks free row = ⊥
Asks (range lo hi) row = ⊥
Asks (divided division e b) row = ⊥
Asks (truth b) row = ⊥
Asks (negative e) row = ⊥
Asks (negation c) row = ⊥

-- ---- the changes along a turn of the loop

-- the expression is a literal; it is the variable
abbrev pub literal_in : Expression → Option ℤ
literal_in (number z) = Some z
literal_in (variable x) = None
literal_in free = None
literal_in (range lo hi) = None
literal_in (divided division e b) = None
literal_in (truth b) = None
literal_in (negative e) = None
literal_in (negation c) = None
literal_in (pair op a b) = None

abbrev pub is_variable : ℕ → Expression → Bool
is_variable x (variable y) = x == y
is_variable x (number z) = false
is_variable x free = false
is_variable x (range lo hi) = false
is_variable x (divided division e b) = false
is_variable x (truth b) = false
is_variable x (negative e) = false
is_variable x (negation c) = false
is_variable x (pair op a b) = false

-- what an operator and a literal to its right add to the left operand
abbrev pub added_by : Op2 → Option ℤ → Option ℤ
added_by Add (Some z) = Some z
added_by Sub (Some z) = Some (neg_ℤ z)
added_by Mul (Some z) = None
added_by Less (Some z) = None
added_by LessEqual (Some z) = None
added_by Greater (Some z) = None
added_by GreaterEqual (Some z) = None
added_by Equal (Some z) = None
added_by NotEqual (Some z) = None
added_by And (Some z) = None
added_by Or (Some z) = None
added_by op None = None

-- what an assignment of the value adds to the variable, where the value is `x + c` or `x - c` with a literal `c`
abbrev pub added : ℕ → Expression → Option ℤ
added x (pair op a b) = if is_variable x a then added_by op (literal_in b) else None
added x (number z) = None
added x (variable y) = None
added x free = None
added x (range lo hi) = None
added x (divided division e b) = None
added x (truth b) = None
added x (negative e) = None
added x (negation c) = None

-- something of at most 2^31 in size is added
abbrev pub IsShort : Option ℤ → Type 0
IsShort None = ⊥
IsShort (Some z) = unsigned_abs z ≤ 2 ^ 31

abbrev pub amount : Option ℤ → ℤ
amount None = pos 0
amount (Some z) = z

-- the change that the assignment makes to the function
abbrev pub change_by : Affine → ℕ → Expression → ℤ
change_by e x v = coefficient e x *ℤ amount (added x v)

-- the statements have no loop and no `return`, and assign a variable of the function only as `x = x + c` or `x = x - c`
abbrev mutual
  pub IsCounting : Affine → Statement → Type 0
  IsCounting e (assign x v) = (coefficient e x ≡ pos 0) ⊎ IsShort (added x v)
  IsCounting e skip = ⊤
  IsCounting e return = ⊥
  IsCounting e break = ⊥
  IsCounting e continue = ⊥
  IsCounting e (if_else test first second) = AreCounting e first × AreCounting e second
  IsCounting e (while_loop test body step) = ⊥
  IsCounting e (do_while body test) = ⊥

  pub AreCounting : Affine → Statements → Type 0
  AreCounting e empty = ⊤
  AreCounting e (sequence first more) = IsCounting e first × AreCounting e more

-- A turn of the loop counts the function down: on each path through body and step its changes sum to at most -1. The limit on the steps
-- of a turn is met by each program that a memory of 2^64 bytes holds.
pub record CountsDown (body step : Statements) (e : Affine) : Type 0 where
  pub small : IsSmall e
  pub in_body : AreCounting e body
  pub in_step : AreCounting e step
  pub few_steps : (before (change_by e) body (before (change_by e) step none)).most < 2 ^ 64
  pub falls : (before (change_by e) body (before (change_by e) step none)).change <ℤ pos 0

-- one with the property, or none where there is none
abbrev pub Finds : Option Row → (Row → Type 0) → Type 0
Finds (Some row) P = P row
Finds None P = (row : Row) → ¬ P row

-- ---- the first row in the text of a test that has a property

module _ (P : Row → Type 0) where
  -- no row that the test asks for has it
  abbrev pub Lacks : Expression → Type 0
  Lacks test = (row : Row) → Asks test row → ¬ P row

  -- of a comparison the row is the first with it: `==` asks for that of `a >= b` and then for that of `a <= b`
  abbrev pub IsFirstCompared : Op2 → Expression → Expression → Row → Type 0
  IsFirstCompared GreaterEqual a b row = IsRow (less a b) row × P row
  IsFirstCompared Greater a b row = IsRow (strictly_less a b) row × P row
  IsFirstCompared LessEqual a b row = IsRow (less b a) row × P row
  IsFirstCompared Less a b row = IsRow (strictly_less b a) row × P row
  IsFirstCompared Equal a b row =
      (IsRow (less a b) row × P row) ⊎ (((other : Row) → IsRow (less a b) other → ¬ P other) × IsRow (less b a) row × P row)
  IsFirstCompared NotEqual a b row = ⊥
  IsFirstCompared Add a b row = ⊥
  IsFirstCompared Sub a b row = ⊥
  IsFirstCompared Mul a b row = ⊥
  IsFirstCompared And a b row = ⊥
  IsFirstCompared Or a b row = ⊥

  -- of a test: the rows of the left operand of `&&` stand before those of the right one
  abbrev pub IsFirst : Expression → Row → Type 0
  IsFirst (pair op a b) row =
      OfConjunction op (IsFirst a row ⊎ (Lacks a × IsFirst b row)) (IsAffine a × IsAffine b × ComparisonFits a b × IsFirstCompared op a b row)
  IsFirst (number z) row = ⊥
  IsFirst (variable x) row = ⊥
  IsFirst free row = ⊥
  IsFirst (range lo hi) row = ⊥
  IsFirst (divided division e b) row = ⊥
  IsFirst (truth b) row = ⊥
  IsFirst (negative e) row = ⊥
  IsFirst (negation c) row = ⊥

-- ---- programs

-- Statements behind assignments whose factors, each 1 more than the total size of what is assigned, have the product `p`: more such
-- assignments, of affine expressions whose numbers fit, then a loop that counts the row's function down, then statements without loops.
-- The product of all factors is at most 2^60.
abbrev pub CountsFrom : Row → ℕ → Statements → Type 0
CountsFrom row p (sequence (assign x v) more) =
    IsAffine v × ExpressionFits v × (p * (1 + total_size (form_of v)) ≤ 2 ^ 60) × CountsFrom row (p * (1 + total_size (form_of v))) more
CountsFrom row p (sequence (while_loop test body step) more) = Asks test row × CountsDown body step row.affine × HasNoLoop more
CountsFrom row p (sequence skip more) = ⊥
CountsFrom row p (sequence return more) = ⊥
CountsFrom row p (sequence break more) = ⊥
CountsFrom row p (sequence continue more) = ⊥
CountsFrom row p (sequence (if_else test first second) more) = ⊥
CountsFrom row p (sequence (do_while body test) more) = ⊥
CountsFrom row p empty = ⊥

-- the loop behind assignments counts down the first row in the text of its test that its body and step count down
abbrev pub CountsFirst : Row → Statements → Type 0
CountsFirst row (sequence (assign x v) more) = CountsFirst row more
CountsFirst row (sequence (while_loop test body step) more) = IsFirst (λ other. CountsDown body step other.affine) test row
CountsFirst row (sequence skip more) = ⊥
CountsFirst row (sequence return more) = ⊥
CountsFirst row (sequence break more) = ⊥
CountsFirst row (sequence continue more) = ⊥
CountsFirst row (sequence (if_else test first second) more) = ⊥
CountsFirst row (sequence (do_while body test) more) = ⊥
CountsFirst row empty = ⊥

-- the body of a countdown program
abbrev pub IsCountdown : Statements → Type 0
IsCountdown body = HasNoLoop body ⊎ ((row : Row) × CountsFrom row 1 body)

-- why it is one; of several rows that are counted down the first counts
abbrev pub IsCountdownBy : Countdown → Statements → Type 0
IsCountdownBy Straight body = HasNoLoop body
IsCountdownBy (Loop row) body = CountsFrom row 1 body × CountsFirst row body
