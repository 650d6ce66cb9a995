-- The concrete trees of programs: one constructor for each alternative of this grammar.
--
--     program     = prelude* function* "int" "main" "(" ["void"] ")" "{" item* "}"
--     prelude     = "extern" "int" "__VERIFIER_nondet_int" "(" ["void"] ")" ";"
--                 | "typedef" "enum" "{" "false" "," "true" "}" "bool" ";"
--     function    = ("int" | "void") NAME "(" ["void" | "int" NAME ("," "int" NAME)*] ")" "{" item* "}"
--     item        = declaration ";" | statement
--     declaration = "int" part ("," part)*
--     part        = NAME ["=" value]
--     value       = expression | call
--     statement   = simple ";" | call ";" | NAME "=" call ";" | ";" | "{" item* "}"
--                 | "if" "(" expression ")" statement ["else" statement]
--                 | "while" "(" expression ")" statement
--                 | "do" statement "while" "(" expression ")" ";"
--                 | "for" "(" [simple | declaration] ";" [expression] ";" [simple] ")" statement
--                 | "return" [expression] ";" | "break" ";" | "continue" ";"
--     simple      = NAME ("=" | "+=" | "-=" | "*=") expression | NAME ("++" | "--") | ("++" | "--") NAME
--     call        = NAME "(" [expression ("," expression)*] ")"
--     expression  = operand link*
--     link        = operator operand | ("/" | "%") divisor
--     operand     = ("-" | "+" | "!") operand | NUMBER | NAME | "true" | "false" | "?" | "__VERIFIER_nondet_int" "(" ")"
--                 | "(" expression ")" | "[" end "," end "]"
--     operator    = "||" | "&&" | "==" | "!=" | "<" | "<=" | ">" | ">=" | "+" | "-" | "*"
--     divisor     = ["-"] NUMBER
--     end         = ["-"] (NUMBER | "inf")
--
-- An expression is written here as its operands and divisors with the signs between them. How they group is said elsewhere: it has no part in
-- which tokens are an expression. What may have to be found again in the text holds the number of a token of its, counted from 0:
-- operands, statements, names and signs before a name that of their first token, a divisor that of its NUMBER, a `do` that of the
-- `while` that ends it, and a function that of the token behind it.
use Rattle.std.specs.Prelude.{ℕ, ℤ, Bool, Option, List}
use Rattle.concrete_syntax.specs.declared.sign.Division.{Division}
use Rattle.concrete_syntax.specs.declared.sign.Operator.{Operator}
use Rattle.concrete_syntax.specs.declared.sign.Prefix.{Prefix}
use Rattle.concrete_syntax.specs.declared.sign.Assignment.{Assignment}
use Rattle.concrete_syntax.specs.declared.sign.Step.{Step}

-- the end of a range: whether a `-` stands before it, and its number, or none for `inf`
pub record End : Type 0 where
  pub negative : Bool
  pub size : Option ℤ

-- what divides: whether a `-` stands before its number, the number of this one's token, and the number
pub record Divisor : Type 0 where
  pub negative : Bool
  pub at : ℕ
  pub size : ℤ

-- an operand, and the links behind the first one of an expression
mutual
  pub data Operand : Type 0 where
    operand_at : ℕ → OperandKind → Operand

  pub data OperandKind : Type 0 where
    number : ℤ → OperandKind
    name : List ℕ → OperandKind
    truth : Bool → OperandKind
    unknown : OperandKind
    call : OperandKind
    signed : Prefix → Operand → OperandKind
    parentheses : Operand → Tail → OperandKind
    range : End → End → OperandKind

  -- an operator or a sign of a division, and what stands at its right
  pub data Link : Type 0 where
    operation : Operator → Operand → Link
    division : Division → Divisor → Link

  pub data Tail : Type 0 where
    ended : Tail
    further : Link → Tail → Tail

pub record Expression : Type 0 where
  pub operand : Operand
  pub tail : Tail

pub record Name : Type 0 where
  pub at : ℕ
  pub bytes : List ℕ

-- what a simple statement does to the name that it begins with
pub data Action : Type 0 where
  assigns : Assignment → Expression → Action
  steps : Step → Action

pub data Simple : Type 0 where
  acts : Name → Action → Simple
  steps_before : ℕ → Step → Name → Simple

-- a call of a function of the program
pub record Call : Type 0 where
  pub function : Name
  pub arguments : List Expression

-- what gives a variable its value behind an `=`: an expression, or a call
pub data Value : Type 0 where
  evaluates : Expression → Value
  answers : Call → Value

-- a declared name, and its initialiser if it has one
pub record Part : Type 0 where
  pub declared : Name
  pub initialiser : Option Value

pub record Declaration : Type 0 where
  pub part : Part
  pub more : List Part

-- what stands before the first `;` of a `for`
pub data Start : Type 0 where
  starts_with_nothing : Start
  starts_with : Simple → Start
  declares : Declaration → Start

mutual
  pub data Statement : Type 0 where
    statement_at : ℕ → StatementKind → Statement

  pub data StatementKind : Type 0 where
    simple : Simple → StatementKind
    calls : Call → StatementKind
    gives : Name → Call → StatementKind
    skip : StatementKind
    braces : Items → StatementKind
    conditional : Expression → Statement → Otherwise → StatementKind
    while_loop : Expression → Statement → StatementKind
    do_loop : Statement → ℕ → Expression → StatementKind
    for_loop : Start → Option Expression → Option Simple → Statement → StatementKind
    return : Option Expression → StatementKind
    break : StatementKind
    continue : StatementKind

  -- the second part of an `if`, where it has one
  pub data Otherwise : Type 0 where
    without : Otherwise
    otherwise : Statement → Otherwise

  pub data Items : Type 0 where
    none : Items
    declaration : Declaration → Items → Items
    statement : Statement → Items → Items

-- what may stand before `main`; the truth value says whether `void` is written
pub data Prelude : Type 0 where
  extern_call : Bool → Prelude
  typedef_bool : Prelude

-- what stands in the parentheses of a function: nothing, and whether `void` is written; or the first name, and those behind it
pub data Parameters : Type 0 where
  nothing : Bool → Parameters
  named : Name → List Name → Parameters

-- a function other than `main`: whether it gives a value, its name, what is in its parentheses and in its braces, and what stands behind it
pub record Function : Type 0 where
  pub valued : Bool
  pub name : Name
  pub parameters : Parameters
  pub items : Items
  pub behind : ℕ

pub record Program : Type 0 where
  pub preludes : List Prelude
  pub functions : List Function
  pub void : Bool
  pub items : Items
