-- Runs that stay within the numbers of 32 bits.
use Rattle.std.specs.Prelude.{◌≡◌, ℕ, ◌<◌, ℤ, ◌⊎◌, [], ◌∷◌, FitsSigned, ⊤}
use Rattle.std.specs.Int.{w32}
use Rattle.linear_cons.specs.Numbers.{number_at}
use Rattle.step_meaning.specs.Syntax.{Expression, quotient, number, variable, free, range, divided, truth, negative, negation, pair, assign, skip, return, break, continue, if_else, while_loop, do_while}
use Rattle.step_meaning.specs.AffineExpressions.{OfOperands}
use Rattle.step_meaning.specs.Outcome.{Store, May}
use Rattle.step_meaning.specs.Step.{Configuration, Todo, one, turn, front}
use Rattle.step_meaning.specs.Run.{Reaches}

-- the number is one of 32 bits
abbrev pub FitsInt : ℤ → Type 0
FitsInt z = FitsSigned w32 z

-- each outcome of the number expression is
abbrev pub OutcomesFit : Expression → Store → Type 0
OutcomesFit e s = (v : ℤ) → May e s v → FitsInt v

-- the expression is a number as it is written
abbrev pub IsLiteral : Expression → Type 0
IsLiteral e = (z : ℤ) × (e ≡ number z)

-- Each outcome of the number expression, and of each that stands in it, is. A literal below a sign is one number with it; a remainder is taken where its quotient is.
abbrev pub IsSmallNumber : Expression → Store → Type 0
IsSmallNumber (number z) s = OutcomesFit (number z) s
IsSmallNumber (variable x) s = OutcomesFit (variable x) s
IsSmallNumber free s = OutcomesFit free s
IsSmallNumber (range lo hi) s = OutcomesFit (range lo hi) s
IsSmallNumber (divided division e b) s = IsSmallNumber e s × OutcomesFit (divided quotient e b) s × OutcomesFit (divided division e b) s
IsSmallNumber (truth b) s = ⊤
IsSmallNumber (negative e) s = (IsLiteral e ⊎ IsSmallNumber e s) × OutcomesFit (negative e) s
IsSmallNumber (negation c) s = ⊤
IsSmallNumber (pair op l r) s = IsSmallNumber l s × IsSmallNumber r s × OutcomesFit (pair op l r) s

-- each outcome of each number expression in the test is; no operand is left out
abbrev pub IsSmallTest : Expression → Store → Type 0
IsSmallTest (number z) s = ⊤
IsSmallTest (variable x) s = ⊤
IsSmallTest free s = ⊤
IsSmallTest (range lo hi) s = ⊤
IsSmallTest (divided division e b) s = ⊤
IsSmallTest (truth b) s = ⊤
IsSmallTest (negative e) s = ⊤
IsSmallTest (negation c) s = IsSmallTest c s
IsSmallTest (pair op l r) s = OfOperands op (IsSmallTest l s × IsSmallTest r s) (IsSmallNumber l s × IsSmallNumber r s)

-- what is asked of the first item of a front
abbrev pub IsSmallAt : Todo → Store → Type 0
IsSmallAt [] s = ⊤
IsSmallAt (one (assign x e) ∷ rest) s = IsSmallNumber e s
IsSmallAt (one skip ∷ rest) s = ⊤
IsSmallAt (one return ∷ rest) s = ⊤
IsSmallAt (one break ∷ rest) s = ⊤
IsSmallAt (one continue ∷ rest) s = ⊤
IsSmallAt (one (if_else c first second) ∷ rest) s = IsSmallTest c s
IsSmallAt (one (while_loop c body step) ∷ rest) s = IsSmallTest c s
IsSmallAt (one (do_while body c) ∷ rest) s = ⊤
IsSmallAt (turn c body step ∷ rest) s = ⊤

-- the sixteen numbers of the store are of 32 bits, and so is each outcome in the assignment or the test that is done next
pub record FitsNow (c : Configuration) : Type 0 where
  pub store : (place : ℕ) → place < 16 → FitsInt (number_at c.store place)
  pub next : IsSmallAt (front c.todo) c.store

-- so it is in each configuration that steps lead to
abbrev pub Fits : Configuration → Type 0
Fits c = (d : Configuration) → Reaches c d → FitsNow d

-- What follows has no part in the headline.

-- the first variables have such numbers
abbrev pub AreInts : ℕ → Store → Type 0
AreInts vars store = (place : ℕ) → place < vars → FitsInt (number_at store place)
