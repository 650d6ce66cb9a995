-- What is still to be read: a list of things, each with its trees.
use Rattle.std.specs.Prelude.{ℕ, ℤ, Bool, true, Option, Some, List, [], ◌∷◌}
use Rattle.derivation.specs.declared.symbol.Symbol.TheVariants as S
use Rattle.derivation.specs.Word.{name as named, number as numbered}
use Rattle.derivation.specs.declared.rule.Rule.{Rule}
use Rattle.derivation.specs.Pieces.{token, look}
use Rattle.derivation.specs.Grammars.{Grammar, Leads as LeadsIn, Stops as StopsIn}
use Rattle.source_syntax.specs.Language.{language, Token, Piece, Phrase, Rest, is_at, IsQuiet}
use Rattle.concrete_syntax.specs.Trees.{Divisor, End, Operand, OperandKind, Tail, Expression, Name, Action, Simple, Value, Part, Declaration, Start, Statement, StatementKind, Otherwise, Items, Parameters, Program}
use Rattle.source_syntax.specs.Spelling.{plain, sign, size_pieces, end_pieces, divisor_pieces, operand_pieces, operand_kind_pieces, tail_pieces, expression_pieces, optional_pieces, name_pieces, action_pieces, simple_pieces, value_pieces, initialiser_pieces, parts_pieces, declaration_pieces, start_pieces, finish_pieces, test_pieces, statement_pieces, statement_kind_pieces, otherwise_pieces, items_pieces, arguments_pieces, further_arguments_pieces, void_pieces, parameters_pieces, further_parameters_pieces, program_pieces}
use Rattle.source_syntax.specs.Ends.{ValueEnd, Closing, StatementEnd, Definitions, DefinitionsEnd, closing_pieces, value_end_pieces, statement_end_pieces, definitions_pieces, definitions_end_pieces}

-- Something to be read, or the number of the next token (`a_place`), where so many levels are open; some where functions are allowed, or aren't, and values in a
-- declaration, or not. Some take the sign behind them along, by which the next word tells their end: an optional expression its `;`, the parts of a declaration their
-- `;`, the start of a `for` its `;`, its last part the `)`, a value what stands behind it, arguments and parameters the `)`, and items the `}`.
pub data Pending : Type 0 where
  exactly : (t : Token) → IsQuiet (Some t.word) → Pending
  a_name : Pending
  bytes_of_a_name : Pending
  a_size : Pending
  an_end : Pending
  a_number : Pending
  a_divisor : Pending
  an_operand : ℕ → Pending
  an_operand_kind : ℕ → Pending
  a_tail : ℕ → Pending
  an_expression : ℕ → Pending
  an_optional : ℕ → Pending
  a_test : ℕ → Pending
  an_action : ℕ → Pending
  a_simple : ℕ → Pending
  an_initialiser : Bool → ℕ → Pending
  a_part_end : Bool → ℕ → Pending
  parts : Bool → ℕ → Pending
  a_declaration : Bool → ℕ → Pending
  a_start : Bool → ℕ → Pending
  a_finish : ℕ → Pending
  a_value : Bool → ℕ → Pending
  a_value_end : Bool → ℕ → Pending
  a_closing : Bool → ℕ → Pending
  arguments : ℕ → Pending
  further_arguments : ℕ → Pending
  a_statement_end : Bool → ℕ → Pending
  a_statement : Bool → ℕ → Pending
  a_statement_kind : Bool → ℕ → Pending
  an_otherwise : Bool → ℕ → Pending
  items : Bool → ℕ → Pending
  a_void : Pending
  parameters : Pending
  further_parameters : Pending
  a_place : Pending
  definitions_end : Pending
  definitions : Bool → Pending
  a_program : Bool → Pending

abbrev pub TreeOf : Pending → Type 0
TreeOf (exactly t quiet) = Unit {0}
TreeOf a_name = Name
TreeOf bytes_of_a_name = List ℕ
TreeOf a_size = Option ℤ
TreeOf an_end = End
TreeOf a_number = ℤ
TreeOf a_divisor = Divisor
TreeOf (an_operand n) = Operand
TreeOf (an_operand_kind n) = OperandKind
TreeOf (a_tail n) = Tail
TreeOf (an_expression n) = Expression
TreeOf (an_optional n) = Option Expression
TreeOf (a_test n) = Expression
TreeOf (an_action n) = Action
TreeOf (a_simple n) = Simple
TreeOf (an_initialiser functions n) = Value × List Part
TreeOf (a_part_end functions n) = Option Value × List Part
TreeOf (parts functions n) = List Part
TreeOf (a_declaration functions n) = Declaration
TreeOf (a_start functions n) = Start
TreeOf (a_finish n) = Option Simple
TreeOf (a_value initialises n) = Value × Closing initialises
TreeOf (a_value_end initialises n) = ValueEnd × Closing initialises
TreeOf (a_closing initialises n) = Closing initialises
TreeOf (arguments n) = List Expression
TreeOf (further_arguments n) = List Expression
TreeOf (a_statement_end functions n) = StatementEnd
TreeOf (a_statement functions n) = Statement
TreeOf (a_statement_kind functions n) = StatementKind
TreeOf (an_otherwise functions n) = Otherwise
TreeOf (items functions n) = Items
TreeOf a_void = Bool
TreeOf parameters = Parameters
TreeOf further_parameters = List Name
TreeOf a_place = ℕ
TreeOf definitions_end = DefinitionsEnd
TreeOf (definitions functions) = Definitions
TreeOf (a_program functions) = Program

abbrev pub pieces_of : (p : Pending) → TreeOf p → List Piece → List Piece
pieces_of (exactly t quiet) tree behind = token t ∷ behind
pieces_of a_name x behind = name_pieces x behind
pieces_of bytes_of_a_name x behind = token (plain (named x)) ∷ behind
pieces_of a_size size behind = size_pieces size behind
pieces_of an_end end behind = end_pieces end behind
pieces_of a_number z behind = token (plain (numbered z)) ∷ behind
pieces_of a_divisor d behind = divisor_pieces d behind
pieces_of (an_operand n) e behind = operand_pieces n e behind
pieces_of (an_operand_kind n) kind behind = operand_kind_pieces n kind behind
pieces_of (a_tail n) tail behind = tail_pieces n tail behind
pieces_of (an_expression n) e behind = expression_pieces n e behind
pieces_of (an_optional n) e behind = optional_pieces n e (token (sign S.Semicolon) ∷ behind)
pieces_of (a_test n) e behind = test_pieces n e behind
pieces_of (an_action n) action behind = action_pieces n action behind
pieces_of (a_simple n) s behind = simple_pieces n s behind
pieces_of (an_initialiser functions n) all behind = value_pieces functions n all.0 (parts_pieces functions n all.1 behind)
pieces_of (a_part_end functions n) end behind = initialiser_pieces functions n end.0 (parts_pieces functions n end.1 behind)
pieces_of (parts functions n) more behind = parts_pieces functions n more behind
pieces_of (a_declaration functions n) d behind = declaration_pieces functions n d behind
pieces_of (a_start functions n) start behind = start_pieces functions n start behind
pieces_of (a_finish n) step behind = finish_pieces n step behind
pieces_of (a_value initialises n) all behind = value_pieces true n all.0 (closing_pieces initialises n all.1 behind)
pieces_of (a_value_end initialises n) end behind = value_end_pieces n end.0 (closing_pieces initialises n end.1 behind)
pieces_of (a_closing initialises n) end behind = closing_pieces initialises n end behind
pieces_of (arguments n) all behind = arguments_pieces n all behind
pieces_of (further_arguments n) all behind = further_arguments_pieces n all behind
pieces_of (a_statement_end functions n) end behind = statement_end_pieces functions n end behind
pieces_of (a_statement functions n) s behind = statement_pieces functions n s behind
pieces_of (a_statement_kind functions n) kind behind = statement_kind_pieces functions n kind behind
pieces_of (an_otherwise functions n) other behind = otherwise_pieces functions n other behind
pieces_of (items functions n) all behind = items_pieces functions n all (token (sign S.CloseBrace) ∷ behind)
pieces_of a_void void behind = void_pieces void behind
pieces_of parameters all behind = parameters_pieces all behind
pieces_of further_parameters all behind = further_parameters_pieces all behind
pieces_of a_place at behind = look (is_at at) ∷ behind
pieces_of definitions_end end behind = definitions_end_pieces end behind
pieces_of (definitions functions) all behind = definitions_pieces functions all behind
pieces_of (a_program functions) p behind = program_pieces functions p behind

-- trees of all that is to be read, and their pieces
abbrev pub Trees : List Pending → Type 0
Trees [] = Unit {0}
Trees (p ∷ more) = TreeOf p × Trees more

abbrev pub pieces : (all : List Pending) → Trees all → List Piece
pieces [] trees = []
pieces (p ∷ more) trees = pieces_of p trees.0 (pieces more trees.1)

abbrev pub phrase : List Pending → Phrase
phrase all = record { Tree = Trees all; pieces = pieces all }

-- programs as a grammar of the calculus
abbrev pub grammar : Grammar
grammar = record { language = language; Sequence = List Pending; phrase = phrase }

abbrev pub Leads : (count : ℕ) (these : List Pending) (from : Rest) (now : ℕ) (those : List Pending) (to : Rest) → (Trees those → Trees these) → Type 0
Leads = LeadsIn grammar

abbrev pub Stops : (count : ℕ) (these : List Pending) (from : Rest) → Rule → Rest → Type 0
Stops = StopsIn grammar
