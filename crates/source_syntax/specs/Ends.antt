-- What is left of trees behind words with which several things begin, and its pieces.
use Rattle.std.specs.Prelude.{ℕ, Bool, true, false, List, ◌∷◌}
use Rattle.derivation.specs.declared.symbol.Symbol.TheVariants as S
use Rattle.derivation.specs.Pieces.{token}
use Rattle.concrete_syntax.specs.declared.sign.Assignment.TheVariants as Assignment
use Rattle.concrete_syntax.specs.Trees.{operand_at, name, Tail, Expression, Name, Action, assigns, acts, Call, Value, evaluates, answers, Part, StatementKind, simple, calls, gives, Parameters, Items, Function}
use Rattle.source_syntax.specs.Language.{Piece}
use Rattle.source_syntax.specs.Spelling.{sign, leading, tail_pieces, action_pieces, where_allowed, arguments_pieces, call_pieces, parts_pieces, function_end_pieces, functions_pieces, main_end_pieces}

-- what stands behind the name that a value begins with: the rest of an expression, or arguments
pub data ValueEnd : Type 0 where
  continues : Tail → ValueEnd
  called : List Expression → ValueEnd

abbrev pub value_of : Name → ValueEnd → Value
value_of x (continues tail) = evaluates (record { operand = operand_at x.at (name x.bytes); tail = tail })
value_of x (called arguments) = answers (record { function = x; arguments = arguments })

-- what stands behind a value: further parts, where it initialises a declared name, or else the `;` of a statement
abbrev pub Closing : Bool → Type 0
Closing true = List Part
Closing false = Unit {0}

-- what stands behind the name that a statement begins with: an action, arguments, or `=` and a call
pub data StatementEnd : Type 0 where
  does : Action → StatementEnd
  applied : List Expression → StatementEnd
  given : Call → StatementEnd

abbrev pub kind_of : Name → StatementEnd → StatementKind
kind_of x (does action) = simple (acts x action)
kind_of x (applied arguments) = calls (record { function = x; arguments = arguments })
kind_of x (given c) = gives x c

-- an `=` and this value
abbrev pub given_value : Value → StatementEnd
given_value (evaluates e) = does (assigns Assignment.Assign e)
given_value (answers c) = given c

-- what stands behind the preludes of a program: functions, and what is in the parentheses and the braces of `main`
pub record Definitions : Type 0 where
  pub functions : List Function
  pub void : Bool
  pub items : Items

-- what stands behind the `int` that they begin with: `main`, or a function and the others
pub data DefinitionsEnd : Type 0 where
  is_main : Bool → Items → DefinitionsEnd
  is_function : Name → Parameters → Items → ℕ → Definitions → DefinitionsEnd

-- a function, by whether it gives a value and what stands behind its type
abbrev pub function_of : Bool → Name → Parameters → Items → ℕ → Function
function_of valued x parameters items behind =
    record { valued = valued; name = x; parameters = parameters; items = items; behind = behind }

-- these definitions behind a function
abbrev pub after_function : Function → Definitions → Definitions
after_function f rest = record { functions = f ∷ rest.functions; void = rest.void; items = rest.items }

-- the pieces, of values with what stands behind them, and of what stands behind the name of a statement with the `;` behind it
abbrev pub closing_pieces : (initialises : Bool) → ℕ → Closing initialises → List Piece → List Piece
closing_pieces true levels more behind = parts_pieces true levels more behind
closing_pieces false levels end behind = token (sign S.Semicolon) ∷ behind

abbrev pub value_end_pieces : ℕ → ValueEnd → List Piece → List Piece
value_end_pieces levels (continues tail) behind = tail_pieces levels tail behind
value_end_pieces levels (called arguments) behind = token (leading S.OpenParenthesis) ∷ arguments_pieces levels arguments behind

abbrev pub statement_end_pieces : Bool → ℕ → StatementEnd → List Piece → List Piece
statement_end_pieces functions levels (does action) behind = action_pieces levels action (token (sign S.Semicolon) ∷ behind)
statement_end_pieces functions levels (applied arguments) behind =
    token (leading S.OpenParenthesis) ∷ where_allowed functions (arguments_pieces levels arguments (token (sign S.Semicolon) ∷ behind))
statement_end_pieces functions levels (given c) behind = token (leading S.Assign) ∷ call_pieces functions levels c (token (sign S.Semicolon) ∷ behind)

abbrev pub definitions_pieces : Bool → Definitions → List Piece → List Piece
definitions_pieces functions d behind = functions_pieces functions d.functions (token (sign S.Int) ∷ token (sign S.Main) ∷ main_end_pieces functions d.void d.items behind)

abbrev pub definitions_end_pieces : DefinitionsEnd → List Piece → List Piece
definitions_end_pieces (is_main void items) behind = token (sign S.Main) ∷ main_end_pieces true void items behind
definitions_end_pieces (is_function x parameters items at rest) behind =
    function_end_pieces true (function_of true x parameters items at) (definitions_pieces true rest behind)
