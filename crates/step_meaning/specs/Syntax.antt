-- The abstract syntax that every definition of meaning speaks of: the trees of `Expr`, `Block` and `Stmt` without their pointers and
-- places. So two trees are equal here exactly where they are the same program.
use Rattle.std.specs.Prelude.{ℕ, ◌+◌, ℤ, Bool, true, false, Option, List, [], ◌∷◌, map}
use Rattle.step_meaning.specs.declared.expression.Op2.{Op2}
use Rattle.step_meaning.specs.declared.expression.Expr.{Expr, Neg', Not', Pair', Quot', Rem'}
use Rattle.step_meaning.specs.declared.expression.Expr.TheVariants.{Number, Name, Free, Range, True, False}
use Rattle.step_meaning.specs.declared.statement.Block.{Block, Then'}
use Rattle.step_meaning.specs.declared.statement.Block.TheVariants.{End}
use Rattle.step_meaning.specs.declared.statement.Stmt.{Stmt}
use Rattle.step_meaning.specs.declared.statement.StmtKind.{StmtKind}
use Rattle.step_meaning.specs.declared.statement.StmtKind.TheVariants.{Assign, Skip, Return, Break, Continue, If, While, Do}

-- what a division asks for: the quotient, or what it leaves
pub data Division : Type 0 where
  quotient : Division
  remainder : Division

-- an expression: a number, a variable by its place, `?`, a range whose missing ends are infinite, a truth value, a sign before an
-- operand, a binary operator between two, a division by a number
pub data Expression : Type 0 where
  number : ℤ → Expression
  variable : ℕ → Expression
  free : Expression
  range : Option ℤ → Option ℤ → Expression
  truth : Bool → Expression
  negative : Expression → Expression
  negation : Expression → Expression
  pair : Op2 → Expression → Expression → Expression
  divided : Division → Expression → ℤ → Expression

-- a statement, and a list of statements
mutual
  pub data Statement : Type 0 where
    assign : ℕ → Expression → Statement
    skip : Statement
    return : Statement
    break : Statement
    continue : Statement
    if_else : Expression → Statements → Statements → Statement
    while_loop : Expression → Statements → Statements → Statement
    do_while : Statements → Expression → Statement

  pub data Statements : Type 0 where
    empty : Statements
    sequence : Statement → Statements → Statements

-- what an `Expr` is
abbrev pub expression : Expr → Expression
expression (Number z) = number z
expression (Name x) = variable x
expression Free = free
expression (Range lo hi) = range lo hi
expression True = truth true
expression False = truth false
expression (Quot' p e by) = divided quotient (expression e) by
expression (Rem' p e by) = divided remainder (expression e) by
expression (Neg' p e) = negative (expression e)
expression (Not' p c) = negation (expression c)
expression (Pair' op p l q r) = pair op (expression l) (expression r)

-- What follows has no part in the headline.

-- the `Statements` that a list is
abbrev pub of_list : List Statement → Statements
of_list [] = empty
of_list (s ∷ more) = sequence s (of_list more)

-- the list that a `Statements` is
abbrev pub list_of : Statements → List Statement
list_of empty = []
list_of (sequence s more) = s ∷ list_of more

-- what a `Block` is, statement for statement
abbrev mutual
  pub statements : Block → Statements
  statements End = empty
  statements (Then' p at kind q rest) = sequence (statement kind) (statements rest)

  pub statement : StmtKind → Statement
  statement (Assign x e) = assign x (expression e)
  statement Skip = skip
  statement Return = return
  statement Break = break
  statement Continue = continue
  statement (If c y n) = if_else (expression c) (statements y) (statements n)
  statement (While c b s) = while_loop (expression c) (statements b) (statements s)
  statement (Do b c) = do_while (statements b) (expression c)

-- the statements that a list of `Stmt` is
abbrev pub parts : List Stmt → List Statement
parts all = map (λ each. statement each.kind) all

-- how many statements there are, inner ones included
abbrev mutual
  pub size_of_statement : Statement → ℕ
  size_of_statement (assign x e) = 1
  size_of_statement skip = 1
  size_of_statement return = 1
  size_of_statement break = 1
  size_of_statement continue = 1
  size_of_statement (if_else c y n) = 1 + size_of y + size_of n
  size_of_statement (while_loop c b s) = 1 + size_of b + size_of s
  size_of_statement (do_while b c) = 1 + size_of b

  pub size_of : Statements → ℕ
  size_of empty = 0
  size_of (sequence first more) = size_of_statement first + size_of more
