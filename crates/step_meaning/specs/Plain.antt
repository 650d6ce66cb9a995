-- Plain programs: what is assigned and compared is affine, and `?` is only ever a whole test.
use Rattle.std.specs.Prelude.{⊤}
use Rattle.step_meaning.specs.AffineExpressions.{IsAffine, IsAffineTest}
use Rattle.step_meaning.specs.Syntax.{Expression, number, variable, free, range, truth, negative, negation, pair, divided, Statement, Statements, assign, skip, return, break, continue, if_else, while_loop, do_while, empty, sequence}

-- a whole `?`, or a test without `?` that compares affine expressions
abbrev pub IsPlainTest : Expression → Type 0
IsPlainTest free = ⊤
IsPlainTest (number z) = IsAffineTest (number z)
IsPlainTest (variable x) = IsAffineTest (variable x)
IsPlainTest (range lo hi) = IsAffineTest (range lo hi)
IsPlainTest (truth b) = IsAffineTest (truth b)
IsPlainTest (negative e) = IsAffineTest (negative e)
IsPlainTest (negation c) = IsAffineTest (negation c)
IsPlainTest (pair op l r) = IsAffineTest (pair op l r)
IsPlainTest (divided division e b) = IsAffineTest (divided division e b)

-- a statement with the inner ones, and a list of them, is plain
abbrev mutual
  pub IsPlainStatement : Statement → Type 0
  IsPlainStatement (assign x e) = IsAffine e
  IsPlainStatement skip = ⊤
  IsPlainStatement return = ⊤
  IsPlainStatement break = ⊤
  IsPlainStatement continue = ⊤
  IsPlainStatement (if_else c first second) = IsPlainTest c × IsPlain first × IsPlain second
  IsPlainStatement (while_loop c body step) = IsPlainTest c × IsPlain body × IsPlain step
  IsPlainStatement (do_while body c) = IsPlain body × IsPlainTest c

  pub IsPlain : Statements → Type 0
  IsPlain empty = ⊤
  IsPlain (sequence first more) = IsPlainStatement first × IsPlain more
