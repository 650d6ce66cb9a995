-- That a program is valid has one proof at most, so that the type `Program` may keep the fact. Nothing else is said here.
use Rattle.std.specs.Prelude.{Bool, true, false, ℕ, ℤ, List, Option, None, Some}
use denote.Struct.Props as logic
use Rattle.step_meaning.specs.declared.expression.Op2.{Op2}
use Rattle.step_meaning.specs.declared.expression.Op2.TheVariants.{Add, Sub, Mul, And, Or}
use Rattle.step_meaning.specs.declared.statement.Block.{Block}
use Rattle.step_meaning.specs.Syntax.{Expression, range, divided, negative, negation, pair, Statement, Statements, assign, skip, return, break, continue, if_else, while_loop, do_while, empty, sequence, statements}
use Rattle.step_meaning.specs.Valid.{IsInOrder, MakesNumber, MakesTest, IsNumber, IsTest, IsStatement, IsBody, IsInsideStatement, IsInside, IsValid}

IsInOrder-prop : (lo hi : Option ℤ) → IsProp (IsInOrder lo hi)
IsInOrder-prop (Some lo) (Some hi) = Prim.hlevel logic.props
IsInOrder-prop (Some lo) None = Prim.hlevel logic.props
IsInOrder-prop None hi = Prim.hlevel logic.props

MakesNumber-prop : (op : Op2) {both : Type 0} → IsProp both → IsProp (MakesNumber op both)
MakesNumber-prop Add h = h
MakesNumber-prop Sub h = h
MakesNumber-prop Mul h = h
MakesNumber-prop _ h = Prim.hlevel logic.props

MakesTest-prop : (op : Op2) {numbers tests : Type 0} → IsProp numbers → IsProp tests → IsProp (MakesTest op numbers tests)
MakesTest-prop Add h k = Prim.hlevel logic.props
MakesTest-prop Sub h k = Prim.hlevel logic.props
MakesTest-prop Mul h k = Prim.hlevel logic.props
MakesTest-prop And h k = k
MakesTest-prop Or h k = k
MakesTest-prop _ h k = h

pub IsNumber-prop : (vars : ℕ) (e : Expression) → IsProp (IsNumber vars e)
IsNumber-prop vars (range lo hi) = IsInOrder-prop lo hi
IsNumber-prop vars (divided division e b) = Prim.hlevel (IsNumber-prop vars e, logic.props)
IsNumber-prop vars (negative e) = IsNumber-prop vars e
IsNumber-prop vars (pair op l r) =
    let left = IsNumber-prop vars l in
    let right = IsNumber-prop vars r in
    MakesNumber-prop op (Prim.hlevel (left, right, logic.props))
IsNumber-prop vars _ = Prim.hlevel logic.props

pub IsTest-prop : (vars : ℕ) (c : Expression) → IsProp (IsTest vars c)
IsTest-prop vars (negation c) = IsTest-prop vars c
IsTest-prop vars (pair op l r) =
    MakesTest-prop op
    (Prim.hlevel (IsNumber-prop vars l, IsNumber-prop vars r, logic.props))
    (Prim.hlevel (IsTest-prop vars l, IsTest-prop vars r, logic.props))
IsTest-prop vars _ = Prim.hlevel logic.props

mutual
  IsStatement-prop : (vars : ℕ) (first : Statement) → IsProp (IsStatement vars first)
  IsStatement-prop vars (assign x e) = Prim.hlevel (IsNumber-prop vars e, logic.props)
  IsStatement-prop vars skip = Prim.hlevel logic.props
  IsStatement-prop vars return = Prim.hlevel logic.props
  IsStatement-prop vars break = Prim.hlevel logic.props
  IsStatement-prop vars continue = Prim.hlevel logic.props
  IsStatement-prop vars (if_else c yes_part no_part) =
      Prim.hlevel (IsTest-prop vars c, IsBody-prop vars yes_part, IsBody-prop vars no_part, logic.props)
  IsStatement-prop vars (while_loop c body step) =
      Prim.hlevel (IsTest-prop vars c, IsBody-prop vars body, IsBody-prop vars step, logic.props)
  IsStatement-prop vars (do_while body c) = Prim.hlevel (IsBody-prop vars body, IsTest-prop vars c, logic.props)

  IsBody-prop : (vars : ℕ) (body : Statements) → IsProp (IsBody vars body)
  IsBody-prop vars empty = Prim.hlevel logic.props
  IsBody-prop vars (sequence first more) =
      Prim.hlevel (IsStatement-prop vars first, IsBody-prop vars more, logic.props)

mutual
  IsInsideStatement-prop : (within : Bool) (first : Statement) → IsProp (IsInsideStatement within first)
  IsInsideStatement-prop within break = Prim.hlevel logic.props
  IsInsideStatement-prop within continue = Prim.hlevel logic.props
  IsInsideStatement-prop within (assign x e) = Prim.hlevel logic.props
  IsInsideStatement-prop within skip = Prim.hlevel logic.props
  IsInsideStatement-prop within return = Prim.hlevel logic.props
  IsInsideStatement-prop within (if_else c first second) = Prim.hlevel (IsInside-prop within first, IsInside-prop within second, logic.props)
  IsInsideStatement-prop within (while_loop c body step) = Prim.hlevel (IsInside-prop true body, IsInside-prop within step, logic.props)
  IsInsideStatement-prop within (do_while body c) = IsInside-prop true body

  IsInside-prop : (within : Bool) (body : Statements) → IsProp (IsInside within body)
  IsInside-prop within empty = Prim.hlevel logic.props
  IsInside-prop within (sequence first more) = Prim.hlevel (IsInsideStatement-prop within first, IsInside-prop within more, logic.props)

pub IsValid-prop : (names : List (List ℕ)) (body : Block) → IsProp (IsValid names body)
IsValid-prop names body =
    let sorted = λ (vars : ℕ). IsBody-prop vars (statements body) in
    let inside = IsInside-prop false (statements body) in
    Prim.hlevel (sorted, inside, logic.props)
