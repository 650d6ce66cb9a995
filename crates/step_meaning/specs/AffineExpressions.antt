-- Affine expressions, the exact numbers of the functions that they are, and when these numbers fit 128 bits.
use Rattle.std.specs.Prelude.{ℕ, ◌<◌, ◌==◌, ℤ, pos, ◌+ℤ◌, ◌-ℤ◌, ◌*ℤ◌, neg_ℤ, FitsSigned, if◌then◌else◌, ◌⊎◌, ⊤}
use Rattle.std.specs.Int.{w128}
use Rattle.step_meaning.specs.declared.expression.Op2.{Op2}
use Rattle.step_meaning.specs.declared.expression.Op2.TheVariants.{Add, Sub, Mul, Less, LessEqual, Greater, GreaterEqual, Equal, NotEqual, And, Or}
use Rattle.step_meaning.specs.Syntax.{Expression, number, variable, truth, negative, negation, pair, free, range, divided}
use Rattle.step_meaning.specs.Naming.{HasNoName}

-- what an operator makes of two affine operands is affine: a sum or a difference always, a product where one factor has no name
abbrev pub KeepsAffine : Op2 → Expression → Expression → Type 0
KeepsAffine Add l r = ⊤
KeepsAffine Sub l r = ⊤
KeepsAffine Mul l r = HasNoName l ⊎ HasNoName r
KeepsAffine Less l r = ⊥
KeepsAffine LessEqual l r = ⊥
KeepsAffine Greater l r = ⊥
KeepsAffine GreaterEqual l r = ⊥
KeepsAffine Equal l r = ⊥
KeepsAffine NotEqual l r = ⊥
KeepsAffine And l r = ⊥
KeepsAffine Or l r = ⊥

-- an affine number expression: neither `?` nor a range occurs, and each product has a factor without names
abbrev pub IsAffine : Expression → Type 0
IsAffine (number z) = ⊤
IsAffine (variable x) = ⊤
IsAffine (negative e) = IsAffine e
IsAffine (pair op l r) = IsAffine l × IsAffine r × KeepsAffine op l r
IsAffine free = ⊥
IsAffine (range lo hi) = ⊥
IsAffine (divided division e b) = ⊥
IsAffine (truth b) = ⊥
IsAffine (negation c) = ⊥

-- the constant of the function that an affine expression is
abbrev pub constant_by : Op2 → ℤ → ℤ → ℤ
constant_by Add a b = a +ℤ b
constant_by Sub a b = a -ℤ b
constant_by Mul a b = a *ℤ b
constant_by Less a b = pos 0
constant_by LessEqual a b = pos 0
constant_by Greater a b = pos 0
constant_by GreaterEqual a b = pos 0
constant_by Equal a b = pos 0
constant_by NotEqual a b = pos 0
constant_by And a b = pos 0
constant_by Or a b = pos 0

abbrev pub constant_in : Expression → ℤ
constant_in (number z) = z
constant_in (negative e) = neg_ℤ (constant_in e)
constant_in (pair op l r) = constant_by op (constant_in l) (constant_in r)
constant_in (variable x) = pos 0
constant_in free = pos 0
constant_in (range lo hi) = pos 0
constant_in (divided division e b) = pos 0
constant_in (truth b) = pos 0
constant_in (negation c) = pos 0

-- its coefficient at a place, from the coefficients `a` and `b` and the constants `c` and `d` of two operands: of the two terms of a
-- product one is 0, since one of its factors has no name
abbrev pub coefficient_by : Op2 → ℤ → ℤ → ℤ → ℤ → ℤ
coefficient_by Add a b c d = a +ℤ b
coefficient_by Sub a b c d = a -ℤ b
coefficient_by Mul a b c d = a *ℤ d +ℤ b *ℤ c
coefficient_by Less a b c d = pos 0
coefficient_by LessEqual a b c d = pos 0
coefficient_by Greater a b c d = pos 0
coefficient_by GreaterEqual a b c d = pos 0
coefficient_by Equal a b c d = pos 0
coefficient_by NotEqual a b c d = pos 0
coefficient_by And a b c d = pos 0
coefficient_by Or a b c d = pos 0

abbrev pub coefficient_in : Expression → ℕ → ℤ
coefficient_in (variable x) place = if place == x then pos 1 else pos 0
coefficient_in (negative e) place = neg_ℤ (coefficient_in e place)
coefficient_in (pair op l r) place =
    coefficient_by op (coefficient_in l place) (coefficient_in r place) (constant_in l) (constant_in r)
coefficient_in (number z) place = pos 0
coefficient_in free place = pos 0
coefficient_in (range lo hi) place = pos 0
coefficient_in (divided division e b) place = pos 0
coefficient_in (truth b) place = pos 0
coefficient_in (negation c) place = pos 0

-- the numbers of the function that the whole expression is fit 128 bits
pub record FunctionFits (e : Expression) : Type 0 where
  pub coefficients : (place : ℕ) → place < 16 → FitsSigned w128 (coefficient_in e place)
  pub constants : FitsSigned w128 (constant_in e)

-- an expression's numbers fit: those of each negation, sum, difference and product in it
abbrev pub ExpressionFits : Expression → Type 0
ExpressionFits (negative e) = ExpressionFits e × FunctionFits (negative e)
ExpressionFits (pair op l r) = ExpressionFits l × ExpressionFits r × FunctionFits (pair op l r)
ExpressionFits (number z) = ⊤
ExpressionFits (variable x) = ⊤
ExpressionFits free = ⊤
ExpressionFits (range lo hi) = ⊤
ExpressionFits (divided division e b) = ⊤
ExpressionFits (truth b) = ⊤
ExpressionFits (negation c) = ⊤

-- what is asked of `&&` and `||` is asked of their operands as tests, what is asked of a comparison of its operands as numbers
abbrev pub OfOperands : Op2 → Type 0 → Type 0 → Type 0
OfOperands And tests numbers = tests
OfOperands Or tests numbers = tests
OfOperands Add tests numbers = numbers
OfOperands Sub tests numbers = numbers
OfOperands Mul tests numbers = numbers
OfOperands Less tests numbers = numbers
OfOperands LessEqual tests numbers = numbers
OfOperands Greater tests numbers = numbers
OfOperands GreaterEqual tests numbers = numbers
OfOperands Equal tests numbers = numbers
OfOperands NotEqual tests numbers = numbers

-- What follows has no part in the headline.

-- the expressions `a - b`, and `a - b - 1`
abbrev pub less : Expression → Expression → Expression
less a b = pair Sub a b

abbrev pub strictly_less : Expression → Expression → Expression
strictly_less a b = pair Sub (pair Sub a b) (number (pos 1))

-- a comparison's numbers fit: those of its sides, of their differences, and of these less 1
pub record ComparisonFits (a b : Expression) : Type 0 where
  pub left : ExpressionFits a
  pub right : ExpressionFits b
  pub difference : FunctionFits (less a b)
  pub opposite : FunctionFits (less b a)
  pub strict_difference : FunctionFits (strictly_less a b)
  pub strict_opposite : FunctionFits (strictly_less b a)

-- a test's numbers fit: those of each comparison in it
abbrev pub TestFits : Expression → Type 0
TestFits (negation c) = TestFits c
TestFits (pair op l r) = OfOperands op (TestFits l × TestFits r) (ComparisonFits l r)
TestFits (number z) = ⊤
TestFits (variable x) = ⊤
TestFits free = ⊤
TestFits (range lo hi) = ⊤
TestFits (divided division e b) = ⊤
TestFits (truth b) = ⊤
TestFits (negative e) = ⊤

-- a test without `?` that compares affine expressions
abbrev pub IsAffineTest : Expression → Type 0
IsAffineTest (truth b) = ⊤
IsAffineTest (negation c) = IsAffineTest c
IsAffineTest (pair op l r) = OfOperands op (IsAffineTest l × IsAffineTest r) (IsAffine l × IsAffine r)
IsAffineTest (number z) = ⊥
IsAffineTest (variable x) = ⊥
IsAffineTest free = ⊥
IsAffineTest (range lo hi) = ⊥
IsAffineTest (divided division e b) = ⊥
IsAffineTest (negative e) = ⊥
