-- The pieces that a tree spells before others, where `levels` levels of nesting are open.
use Rattle.std.specs.Prelude.{ℕ, ◌+◌, ℤ, Bool, true, false, Option, None, Some, List, [], ◌∷◌}
use Rattle.concrete_syntax.specs.declared.sign.Division.{Division}
use Rattle.concrete_syntax.specs.declared.sign.Operator.{Operator}
use Rattle.derivation.specs.declared.symbol.Symbol.{Symbol}
use Rattle.derivation.specs.declared.symbol.Symbol.TheVariants as S
use Rattle.derivation.specs.Word.{Word, symbol, name as named, number as numbered}
use Rattle.derivation.specs.Pieces.{keeps, one_more, anew, token, look}
use Rattle.source_syntax.specs.Language.{Token, Piece, is_at, no_operator, no_else, forbidden}
use Rattle.concrete_syntax.specs.declared.sign.Prefix.{Prefix}
use Rattle.concrete_syntax.specs.declared.sign.Assignment.{Assignment}
use Rattle.concrete_syntax.specs.declared.sign.Step.{Step}
use Rattle.concrete_syntax.specs.Trees.{Divisor, End, Operand, operand_at, OperandKind, number, name, truth, unknown, call, signed, parentheses, range, Link, operation, division, Tail, ended, further, Expression, Name, Action, assigns, steps, Simple, acts, steps_before, Call, Value, evaluates, answers, Part, Declaration, Start, starts_with_nothing, starts_with, declares, Statement, statement_at, StatementKind, simple, calls, gives, skip, braces, conditional, while_loop, do_loop, for_loop, return, break, continue, Otherwise, without, otherwise, Items, none, declaration, statement, Prelude, extern_call, typedef_bool, Parameters, nothing, named as named_parameters, Function, Program}

-- a token that opens no level
abbrev pub plain : Word → Token
plain word = record { word = word; level = 0; counting = keeps }

abbrev pub sign : Symbol → Token
sign s = plain (symbol s)

-- one behind which an expression may begin
abbrev pub leading : Symbol → Token
leading s = record { word = symbol s; level = 0; counting = anew }

-- one that opens a level
abbrev pub opening : Symbol → ℕ → Token
opening s level = record { word = symbol s; level = level; counting = keeps }

-- one that opens a level, and behind which an expression begins
abbrev pub leading_opening : Symbol → ℕ → Token
leading_opening s level = record { word = symbol s; level = level; counting = anew }

-- how an operator is written
abbrev pub sign_of : Operator → Symbol
sign_of Operator.Add = S.Plus
sign_of Operator.Subtract = S.Minus
sign_of Operator.Multiply = S.Times
sign_of Operator.Less = S.Less
sign_of Operator.LessEqual = S.LessEqual
sign_of Operator.Greater = S.Greater
sign_of Operator.GreaterEqual = S.GreaterEqual
sign_of Operator.Equal = S.Equal
sign_of Operator.NotEqual = S.NotEqual
sign_of Operator.And = S.And
sign_of Operator.Or = S.Or

-- how a division is
abbrev pub division_sign : Division → Symbol
division_sign Division.Quotient = S.Divide
division_sign Division.Remainder = S.Remainder

-- a binary operator, as which a sign of a division counts too
abbrev pub counted : Symbol → Token
counted s = record { word = symbol s; level = 0; counting = one_more }

abbrev pub prefix_sign : Prefix → Symbol
prefix_sign Prefix.Plus = S.Plus
prefix_sign Prefix.Minus = S.Minus
prefix_sign Prefix.Not = S.Not

abbrev pub assignment_sign : Assignment → Symbol
assignment_sign Assignment.Assign = S.Assign
assignment_sign Assignment.Add = S.AddAssign
assignment_sign Assignment.Subtract = S.SubtractAssign
assignment_sign Assignment.Multiply = S.MultiplyAssign

abbrev pub step_sign : Step → Symbol
step_sign Step.Increment = S.Increment
step_sign Step.Decrement = S.Decrement

abbrev pub truth_word : Bool → Symbol
truth_word true = S.True
truth_word false = S.False

abbrev pub size_pieces : Option ℤ → List Piece → List Piece
size_pieces (Some z) behind = token (plain (numbered z)) ∷ behind
size_pieces None behind = token (sign S.Infinite) ∷ behind

abbrev pub minus_pieces : Bool → List Piece → List Piece
minus_pieces true behind = token (sign S.Minus) ∷ behind
minus_pieces false behind = behind

abbrev pub end_pieces : End → List Piece → List Piece
end_pieces end behind = minus_pieces end.negative (size_pieces end.size behind)

-- the number of a divisor stands where the next token is that of its number
abbrev pub divisor_pieces : Divisor → List Piece → List Piece
divisor_pieces d behind = minus_pieces d.negative (look (is_at d.at) ∷ token (plain (numbered d.size)) ∷ behind)

-- What holds a number stands where the next token is that of this number.
--
-- A sign before an operand, a `(` and the `(` of a call each open a level. Behind the last operand of an expression no binary operator
-- follows: in a whole program only `)`, `;` and `,` do, so this keeps no text out, but tells where an expression that is read ends.
abbrev mutual
  pub operand_pieces : ℕ → Operand → List Piece → List Piece
  operand_pieces levels (operand_at at kind) behind = look (is_at at) ∷ operand_kind_pieces levels kind behind

  pub operand_kind_pieces : ℕ → OperandKind → List Piece → List Piece
  operand_kind_pieces levels (number z) behind = token (plain (numbered z)) ∷ behind
  operand_kind_pieces levels (name x) behind = token (plain (named x)) ∷ behind
  operand_kind_pieces levels (truth b) behind = token (sign (truth_word b)) ∷ behind
  operand_kind_pieces levels unknown behind = token (sign S.Question) ∷ behind
  operand_kind_pieces levels call behind =
      token (sign S.Nondeterministic) ∷ token (opening S.OpenParenthesis (levels + 1)) ∷ token (sign S.CloseParenthesis) ∷ behind
  operand_kind_pieces levels (signed prefix e) behind = token (opening (prefix_sign prefix) (levels + 1)) ∷ operand_pieces (levels + 1) e behind
  operand_kind_pieces levels (parentheses e more) behind =
      token (opening S.OpenParenthesis (levels + 1))
      ∷ operand_pieces (levels + 1) e (tail_pieces (levels + 1) more (token (sign S.CloseParenthesis) ∷ behind))
  operand_kind_pieces levels (range lo hi) behind =
      token (sign S.OpenBracket)
      ∷ end_pieces lo (token (sign S.Comma) ∷ end_pieces hi (token (sign S.CloseBracket) ∷ behind))

  pub link_pieces : ℕ → Link → List Piece → List Piece
  link_pieces levels (operation op e) behind = token (counted (sign_of op)) ∷ operand_pieces levels e behind
  link_pieces levels (division sign d) behind = token (counted (division_sign sign)) ∷ divisor_pieces d behind

  pub tail_pieces : ℕ → Tail → List Piece → List Piece
  tail_pieces levels ended behind = look no_operator ∷ behind
  tail_pieces levels (further link more) behind = link_pieces levels link (tail_pieces levels more behind)

abbrev pub expression_pieces : ℕ → Expression → List Piece → List Piece
expression_pieces levels e behind = operand_pieces levels e.operand (tail_pieces levels e.tail behind)

abbrev pub optional_pieces : ℕ → Option Expression → List Piece → List Piece
optional_pieces levels (Some e) behind = expression_pieces levels e behind
optional_pieces levels None behind = behind

abbrev pub action_pieces : ℕ → Action → List Piece → List Piece
action_pieces levels (assigns assignment e) behind = token (leading (assignment_sign assignment)) ∷ expression_pieces levels e behind
action_pieces levels (steps step) behind = token (sign (step_sign step)) ∷ behind

abbrev pub name_pieces : Name → List Piece → List Piece
name_pieces x behind = look (is_at x.at) ∷ token (plain (named x.bytes)) ∷ behind

abbrev pub simple_pieces : ℕ → Simple → List Piece → List Piece
simple_pieces levels (acts x action) behind = name_pieces x (action_pieces levels action behind)
simple_pieces levels (steps_before at step x) behind = look (is_at at) ∷ token (sign (step_sign step)) ∷ name_pieces x behind

-- what only stands where functions are allowed
abbrev pub where_allowed : Bool → List Piece → List Piece
where_allowed true behind = behind
where_allowed false behind = look forbidden ∷ behind

-- further arguments of a call, and its `)`
abbrev pub further_arguments_pieces : ℕ → List Expression → List Piece → List Piece
further_arguments_pieces levels [] behind = token (sign S.CloseParenthesis) ∷ behind
further_arguments_pieces levels (e ∷ more) behind = token (leading S.Comma) ∷ expression_pieces levels e (further_arguments_pieces levels more behind)

abbrev pub arguments_pieces : ℕ → List Expression → List Piece → List Piece
arguments_pieces levels [] behind = token (sign S.CloseParenthesis) ∷ behind
arguments_pieces levels (e ∷ more) behind = expression_pieces levels e (further_arguments_pieces levels more behind)

-- a call: its `(` opens no level, and each argument is an expression of its own
abbrev pub call_pieces : Bool → ℕ → Call → List Piece → List Piece
call_pieces functions levels c behind =
    name_pieces c.function (token (leading S.OpenParenthesis) ∷ where_allowed functions (arguments_pieces levels c.arguments behind))

-- what gives a variable its value behind an `=`
abbrev pub value_pieces : Bool → ℕ → Value → List Piece → List Piece
value_pieces functions levels (evaluates e) behind = expression_pieces levels e behind
value_pieces functions levels (answers c) behind = call_pieces functions levels c behind

abbrev pub initialiser_pieces : Bool → ℕ → Option Value → List Piece → List Piece
initialiser_pieces functions levels (Some value) behind = token (leading S.Assign) ∷ value_pieces functions levels value behind
initialiser_pieces functions levels None behind = behind

abbrev pub part_pieces : Bool → ℕ → Part → List Piece → List Piece
part_pieces functions levels part behind = name_pieces part.declared (initialiser_pieces functions levels part.initialiser behind)

-- further parts of a declaration, and its `;`, behind which a `for` has an expression
abbrev pub parts_pieces : Bool → ℕ → List Part → List Piece → List Piece
parts_pieces functions levels [] behind = token (leading S.Semicolon) ∷ behind
parts_pieces functions levels (part ∷ more) behind = token (sign S.Comma) ∷ part_pieces functions levels part (parts_pieces functions levels more behind)

abbrev pub declaration_pieces : Bool → ℕ → Declaration → List Piece → List Piece
declaration_pieces functions levels d behind = token (sign S.Int) ∷ part_pieces functions levels d.part (parts_pieces functions levels d.more behind)

abbrev pub start_pieces : Bool → ℕ → Start → List Piece → List Piece
start_pieces functions levels starts_with_nothing behind = token (leading S.Semicolon) ∷ behind
start_pieces functions levels (starts_with s) behind = simple_pieces levels s (token (leading S.Semicolon) ∷ behind)
start_pieces functions levels (declares d) behind = declaration_pieces functions levels d behind

-- the last part of a `for` and the `)` behind it
abbrev pub finish_pieces : ℕ → Option Simple → List Piece → List Piece
finish_pieces levels (Some s) behind = simple_pieces levels s (token (sign S.CloseParenthesis) ∷ behind)
finish_pieces levels None behind = token (sign S.CloseParenthesis) ∷ behind

-- the test of an `if` or a loop, in its parentheses
abbrev pub test_pieces : ℕ → Expression → List Piece → List Piece
test_pieces levels test behind =
    token (leading_opening S.OpenParenthesis (levels + 1)) ∷ expression_pieces (levels + 1) test (token (sign S.CloseParenthesis) ∷ behind)

-- `{`, `if`, `else`, `while`, `do` and `for` open a level for as long as their statement lasts; so does the `(` before a test. The
-- `while` that ends a `do` and the `(` of a `for` open none. An `else` belongs to the nearest `if`: where an `if` has none, none follows.
abbrev mutual
  pub statement_pieces : Bool → ℕ → Statement → List Piece → List Piece
  statement_pieces functions levels (statement_at at kind) behind = look (is_at at) ∷ statement_kind_pieces functions levels kind behind

  pub statement_kind_pieces : Bool → ℕ → StatementKind → List Piece → List Piece
  statement_kind_pieces functions levels (simple s) behind = simple_pieces levels s (token (sign S.Semicolon) ∷ behind)
  statement_kind_pieces functions levels (calls c) behind = call_pieces functions levels c (token (sign S.Semicolon) ∷ behind)
  statement_kind_pieces functions levels (gives x c) behind =
      name_pieces x (token (leading S.Assign) ∷ call_pieces functions levels c (token (sign S.Semicolon) ∷ behind))
  statement_kind_pieces functions levels skip behind = token (sign S.Semicolon) ∷ behind
  statement_kind_pieces functions levels (braces items) behind =
      token (opening S.OpenBrace (levels + 1)) ∷ items_pieces functions (levels + 1) items (token (sign S.CloseBrace) ∷ behind)
  statement_kind_pieces functions levels (conditional test part other) behind =
      token (opening S.If (levels + 1)) ∷ test_pieces (levels + 1) test (statement_pieces functions (levels + 1) part (otherwise_pieces functions (levels + 1) other behind))
  statement_kind_pieces functions levels (while_loop test body) behind =
      token (opening S.While (levels + 1)) ∷ test_pieces (levels + 1) test (statement_pieces functions (levels + 1) body behind)
  statement_kind_pieces functions levels (do_loop body end test) behind =
      token (opening S.Do (levels + 1))
      ∷ statement_pieces functions (levels + 1) body
      (look (is_at end) ∷ token (sign S.While) ∷ test_pieces (levels + 1) test (token (sign S.Semicolon) ∷ behind))
  statement_kind_pieces functions levels (for_loop start test step body) behind =
      token (opening S.For (levels + 1)) ∷ token (sign S.OpenParenthesis)
      ∷ start_pieces functions (levels + 1) start
      (optional_pieces (levels + 1) test
      (token (sign S.Semicolon) ∷ finish_pieces (levels + 1) step (statement_pieces functions (levels + 1) body behind)))
  statement_kind_pieces functions levels (return value) behind =
      token (leading S.Return) ∷ optional_pieces levels value (token (sign S.Semicolon) ∷ behind)
  statement_kind_pieces functions levels break behind = token (sign S.Break) ∷ token (sign S.Semicolon) ∷ behind
  statement_kind_pieces functions levels continue behind = token (sign S.Continue) ∷ token (sign S.Semicolon) ∷ behind

  pub otherwise_pieces : Bool → ℕ → Otherwise → List Piece → List Piece
  otherwise_pieces functions levels without behind = look no_else ∷ behind
  otherwise_pieces functions levels (otherwise part) behind = token (opening S.Else (levels + 1)) ∷ statement_pieces functions (levels + 1) part behind

  -- items, without the `}` behind them
  pub items_pieces : Bool → ℕ → Items → List Piece → List Piece
  items_pieces functions levels none behind = behind
  items_pieces functions levels (declaration d more) behind = declaration_pieces functions levels d (items_pieces functions levels more behind)
  items_pieces functions levels (statement s more) behind = statement_pieces functions levels s (items_pieces functions levels more behind)

abbrev pub void_pieces : Bool → List Piece → List Piece
void_pieces true behind = token (sign S.Void) ∷ token (sign S.CloseParenthesis) ∷ behind
void_pieces false behind = token (sign S.CloseParenthesis) ∷ behind

abbrev pub prelude_pieces : Prelude → List Piece → List Piece
prelude_pieces (extern_call void) behind =
    token (sign S.Extern) ∷ token (sign S.Int) ∷ token (sign S.Nondeterministic) ∷ token (sign S.OpenParenthesis)
    ∷ void_pieces void (token (sign S.Semicolon) ∷ behind)
prelude_pieces typedef_bool behind =
    token (sign S.Typedef) ∷ token (sign S.Enum) ∷ token (sign S.OpenBrace) ∷ token (sign S.False) ∷ token (sign S.Comma)
    ∷ token (sign S.True) ∷ token (sign S.CloseBrace) ∷ token (sign S.Bool) ∷ token (sign S.Semicolon) ∷ behind

abbrev pub preludes_pieces : List Prelude → List Piece → List Piece
preludes_pieces [] behind = behind
preludes_pieces (prelude ∷ more) behind = prelude_pieces prelude (preludes_pieces more behind)

-- further parameters of a function, and its `)`
abbrev pub further_parameters_pieces : List Name → List Piece → List Piece
further_parameters_pieces [] behind = token (sign S.CloseParenthesis) ∷ behind
further_parameters_pieces (x ∷ more) behind = token (sign S.Comma) ∷ token (sign S.Int) ∷ name_pieces x (further_parameters_pieces more behind)

abbrev pub parameters_pieces : Parameters → List Piece → List Piece
parameters_pieces (nothing void) behind = void_pieces void behind
parameters_pieces (named_parameters x more) behind = token (sign S.Int) ∷ name_pieces x (further_parameters_pieces more behind)

abbrev pub type_sign : Bool → Symbol
type_sign true = S.Int
type_sign false = S.Void

-- what stands behind the type of a function
abbrev pub function_end_pieces : Bool → Function → List Piece → List Piece
function_end_pieces functions f behind =
    name_pieces f.name (token (sign S.OpenParenthesis) ∷ where_allowed functions (parameters_pieces f.parameters
    (token (opening S.OpenBrace 1) ∷ items_pieces functions 1 f.items (token (sign S.CloseBrace) ∷ look (is_at f.behind) ∷ behind))))

abbrev pub functions_pieces : Bool → List Function → List Piece → List Piece
functions_pieces functions [] behind = behind
functions_pieces functions (f ∷ more) behind = token (sign (type_sign f.valued)) ∷ function_end_pieces functions f (functions_pieces functions more behind)

-- what stands behind the name of `main`
abbrev pub main_end_pieces : Bool → Bool → Items → List Piece → List Piece
main_end_pieces functions void items behind =
    token (sign S.OpenParenthesis)
    ∷ void_pieces void (token (opening S.OpenBrace 1) ∷ items_pieces functions 1 items (token (sign S.CloseBrace) ∷ behind))

-- a program's pieces: the braces of `main` and of each function open level 1
abbrev pub program_pieces : Bool → Program → List Piece → List Piece
program_pieces functions p behind =
    preludes_pieces p.preludes (functions_pieces functions p.functions (token (sign S.Int) ∷ token (sign S.Main) ∷ main_end_pieces functions p.void p.items behind))
