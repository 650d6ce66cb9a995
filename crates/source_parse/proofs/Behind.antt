-- The pieces of a tree end with those that stand behind it.
use Rattle.std.proofs.Common.{◌≡◌, ℕ, ℤ, ◌+◌, Bool, true, false, Option, None, Some, List, [], ◌∷◌, ◌++◌, refl, ap, ◌∙◌, sym, append_assoc}
use Rattle.derivation.specs.declared.symbol.Symbol.TheVariants as S
use Rattle.derivation.specs.Word.{number as numbered}
use Rattle.derivation.specs.Pieces.{token, look}
use Rattle.source_syntax.specs.Language.{Piece, is_at}
use Rattle.concrete_syntax.specs.Trees.{Divisor, End, Operand, operand_at, OperandKind, number, name, truth, unknown, call, signed, parentheses, range, Link, operation, division, Tail, ended, further, Expression, Action, assigns, steps, Name, Simple, acts, steps_before, Start, starts_with_nothing, starts_with, declares, Value, evaluates, answers, Part, Call, Statement, statement_at, StatementKind, simple, calls, gives, skip, braces, conditional, while_loop, do_loop, for_loop, return, break, continue, Otherwise, without, otherwise, Items, none, declaration, statement, Parameters, nothing, named, Function, Prelude, extern_call, typedef_bool}
use Rattle.source_syntax.specs.Spelling.{plain, sign, leading, opening, size_pieces, minus_pieces, end_pieces, divisor_pieces, link_pieces, operand_pieces, operand_kind_pieces, tail_pieces, expression_pieces, optional_pieces, action_pieces, simple_pieces, value_pieces, initialiser_pieces, finish_pieces, test_pieces, where_allowed, arguments_pieces, further_arguments_pieces, call_pieces, part_pieces, parts_pieces, start_pieces, statement_pieces, statement_kind_pieces, otherwise_pieces, items_pieces, parameters_pieces, further_parameters_pieces, functions_pieces, void_pieces, prelude_pieces, preludes_pieces}

-- the first pieces end with the others
pub record EndsWith (pieces behind : List Piece) : Type 0 where
  pub front : List Piece
  pub parted : pieces ≡ front ++ behind

pub itself : {behind : List Piece} → EndsWith behind behind
itself = record { front = []; parted = refl }

pub one_more : {piece : Piece} {pieces behind : List Piece} → EndsWith pieces behind → EndsWith (piece ∷ pieces) behind
one_more {piece} h = record { front = piece ∷ h.front; parted = ap (λ ps. piece ∷ ps) h.parted }

pub through : {pieces inner behind : List Piece} → EndsWith pieces inner → EndsWith inner behind → EndsWith pieces behind
through {pieces} {inner} {behind} h k = record {
  front = h.front ++ k.front;
  parted = h.parted ∙ ap (λ ps. h.front ++ ps) k.parted ∙ sym (append_assoc h.front k.front behind);
}

behind_size : (size : Option ℤ) (behind : List Piece) → EndsWith (size_pieces size behind) behind
behind_size (Some z) behind = one_more itself
behind_size None behind = one_more itself

behind_minus : (negative : Bool) (behind : List Piece) → EndsWith (minus_pieces negative behind) behind
behind_minus true behind = one_more itself
behind_minus false behind = itself

behind_end : (end : End) (behind : List Piece) → EndsWith (end_pieces end behind) behind
behind_end end behind = through (behind_minus end.negative (size_pieces end.size behind)) (behind_size end.size behind)

behind_divisor : (d : Divisor) (behind : List Piece) → EndsWith (divisor_pieces d behind) behind
behind_divisor d behind = through (behind_minus d.negative (look (is_at d.at) ∷ token (plain (numbered d.size)) ∷ behind)) (one_more (one_more itself))

mutual
  behind_operand : (levels : ℕ) (e : Operand) (behind : List Piece) → EndsWith (operand_pieces levels e behind) behind
  behind_operand levels (operand_at at kind) behind = one_more (behind_kind levels kind behind)

  behind_kind : (levels : ℕ) (kind : OperandKind) (behind : List Piece) → EndsWith (operand_kind_pieces levels kind behind) behind
  behind_kind levels (number z) behind = one_more itself
  behind_kind levels (name x) behind = one_more itself
  behind_kind levels (truth b) behind = one_more itself
  behind_kind levels unknown behind = one_more itself
  behind_kind levels call behind = one_more (one_more (one_more itself))
  behind_kind levels (signed prefix e) behind = one_more (behind_operand (levels + 1) e behind)
  behind_kind levels (parentheses e more) behind =
      let close = token (sign S.CloseParenthesis) ∷ behind in
      one_more (through (behind_operand (levels + 1) e (tail_pieces (levels + 1) more close)) (through (behind_tail (levels + 1) more close) (one_more itself)))
  behind_kind levels (range lo hi) behind =
      let close = token (sign S.CloseBracket) ∷ behind in
      one_more (through (behind_end lo (token (sign S.Comma) ∷ end_pieces hi close)) (one_more (through (behind_end hi close) (one_more itself))))

  behind_tail : (levels : ℕ) (more : Tail) (behind : List Piece) → EndsWith (tail_pieces levels more behind) behind
  behind_tail levels ended behind = one_more itself
  behind_tail levels (further link more) behind =
      through (behind_link levels link (tail_pieces levels more behind)) (behind_tail levels more behind)

  behind_link : (levels : ℕ) (link : Link) (behind : List Piece) → EndsWith (link_pieces levels link behind) behind
  behind_link levels (operation op e) behind = one_more (behind_operand levels e behind)
  behind_link levels (division sign d) behind = one_more (behind_divisor d behind)

pub behind_expression : (levels : ℕ) (e : Expression) (behind : List Piece) → EndsWith (expression_pieces levels e behind) behind
behind_expression levels e behind = through (behind_operand levels e.operand (tail_pieces levels e.tail behind)) (behind_tail levels e.tail behind)

pub behind_optional : (levels : ℕ) (e : Option Expression) (behind : List Piece) → EndsWith (optional_pieces levels e behind) behind
behind_optional levels (Some e) behind = behind_expression levels e behind
behind_optional levels None behind = itself

pub behind_action : (levels : ℕ) (action : Action) (behind : List Piece) → EndsWith (action_pieces levels action behind) behind
behind_action levels (assigns assignment e) behind = one_more (behind_expression levels e behind)
behind_action levels (steps step) behind = one_more itself

pub behind_simple : (levels : ℕ) (s : Simple) (behind : List Piece) → EndsWith (simple_pieces levels s behind) behind
behind_simple levels (acts x action) behind = one_more (one_more (behind_action levels action behind))
behind_simple levels (steps_before at step x) behind = one_more (one_more (one_more (one_more itself)))

pub behind_finish : (levels : ℕ) (s : Option Simple) (behind : List Piece) → EndsWith (finish_pieces levels s behind) behind
behind_finish levels (Some s) behind = through (behind_simple levels s (token (sign S.CloseParenthesis) ∷ behind)) (one_more itself)
behind_finish levels None behind = one_more itself

pub behind_test : (levels : ℕ) (test : Expression) (behind : List Piece) → EndsWith (test_pieces levels test behind) behind
behind_test levels test behind =
    one_more (through (behind_expression (levels + 1) test (token (sign S.CloseParenthesis) ∷ behind)) (one_more itself))

pub behind_allowed : (functions : Bool) (behind : List Piece) → EndsWith (where_allowed functions behind) behind
behind_allowed true behind = itself
behind_allowed false behind = one_more itself

behind_further : (levels : ℕ) (more : List Expression) (behind : List Piece) → EndsWith (further_arguments_pieces levels more behind) behind
behind_further levels [] behind = one_more itself
behind_further levels (e ∷ more) behind =
    one_more (through (behind_expression levels e (further_arguments_pieces levels more behind)) (behind_further levels more behind))

behind_arguments : (levels : ℕ) (all : List Expression) (behind : List Piece) → EndsWith (arguments_pieces levels all behind) behind
behind_arguments levels [] behind = one_more itself
behind_arguments levels (e ∷ more) behind =
    through (behind_expression levels e (further_arguments_pieces levels more behind)) (behind_further levels more behind)

pub behind_call : (functions : Bool) (levels : ℕ) (c : Call) (behind : List Piece) → EndsWith (call_pieces functions levels c behind) behind
behind_call functions levels c behind =
    one_more (one_more (one_more (through (behind_allowed functions (arguments_pieces levels c.arguments behind)) (behind_arguments levels c.arguments behind))))

behind_value : (functions : Bool) (levels : ℕ) (value : Value) (behind : List Piece) → EndsWith (value_pieces functions levels value behind) behind
behind_value functions levels (evaluates e) behind = behind_expression levels e behind
behind_value functions levels (answers c) behind = behind_call functions levels c behind

pub behind_initialiser : (functions : Bool) (levels : ℕ) (value : Option Value) (behind : List Piece)
    → EndsWith (initialiser_pieces functions levels value behind) behind
behind_initialiser functions levels (Some value) behind = one_more (behind_value functions levels value behind)
behind_initialiser functions levels None behind = itself

pub behind_void : (void : Bool) (behind : List Piece) → EndsWith (void_pieces void behind) behind
behind_void true behind = one_more (one_more itself)
behind_void false behind = one_more itself

behind_prelude : (prelude : Prelude) (behind : List Piece) → EndsWith (prelude_pieces prelude behind) behind
behind_prelude (extern_call void) behind =
    one_more (one_more (one_more (one_more (through (behind_void void (token (sign S.Semicolon) ∷ behind)) (one_more itself)))))
behind_prelude typedef_bool behind =
    one_more (one_more (one_more (one_more (one_more (one_more (one_more (one_more (one_more itself))))))))

pub behind_preludes : (preludes : List Prelude) (behind : List Piece) → EndsWith (preludes_pieces preludes behind) behind
behind_preludes [] behind = itself
behind_preludes (prelude ∷ more) behind = through (behind_prelude prelude (preludes_pieces more behind)) (behind_preludes more behind)

-- ── Statements and functions ──

behind_parts : (functions : Bool) (levels : ℕ) (parts : List Part) (behind : List Piece) → EndsWith (parts_pieces functions levels parts behind) behind
behind_parts functions levels [] behind = one_more itself
behind_parts functions levels (part ∷ more) behind =
    one_more (one_more (one_more
    (through (behind_initialiser functions levels part.initialiser (parts_pieces functions levels more behind)) (behind_parts functions levels more behind))))

behind_declaration : (functions : Bool) (levels : ℕ) (part : Part) (more : List Part) (behind : List Piece)
    → EndsWith (token (sign S.Int) ∷ part_pieces functions levels part (parts_pieces functions levels more behind)) behind
behind_declaration functions levels part more behind =
    one_more (one_more (one_more
    (through (behind_initialiser functions levels part.initialiser (parts_pieces functions levels more behind)) (behind_parts functions levels more behind))))

behind_start : (functions : Bool) (levels : ℕ) (start : Start) (behind : List Piece) → EndsWith (start_pieces functions levels start behind) behind
behind_start functions levels starts_with_nothing behind = one_more itself
behind_start functions levels (starts_with s) behind = through (behind_simple levels s (token (leading S.Semicolon) ∷ behind)) (one_more itself)
behind_start functions levels (declares d) behind = behind_declaration functions levels d.part d.more behind

mutual
  behind_statement : (functions : Bool) (levels : ℕ) (s : Statement) (behind : List Piece) → EndsWith (statement_pieces functions levels s behind) behind
  behind_statement functions levels (statement_at at kind) behind = one_more (behind_statement_kind functions levels kind behind)

  behind_statement_kind : (functions : Bool) (levels : ℕ) (kind : StatementKind) (behind : List Piece)
      → EndsWith (statement_kind_pieces functions levels kind behind) behind
  behind_statement_kind functions levels (simple s) behind = through (behind_simple levels s (token (sign S.Semicolon) ∷ behind)) (one_more itself)
  behind_statement_kind functions levels (calls c) behind = through (behind_call functions levels c (token (sign S.Semicolon) ∷ behind)) (one_more itself)
  behind_statement_kind functions levels (gives x c) behind =
      one_more (one_more (one_more (through (behind_call functions levels c (token (sign S.Semicolon) ∷ behind)) (one_more itself))))
  behind_statement_kind functions levels skip behind = one_more itself
  behind_statement_kind functions levels (braces all) behind =
      one_more (through (behind_items functions (levels + 1) all (token (sign S.CloseBrace) ∷ behind)) (one_more itself))
  behind_statement_kind functions levels (conditional test part other) behind =
      let last = otherwise_pieces functions (levels + 1) other behind in
      one_more
      (through (behind_test (levels + 1) test (statement_pieces functions (levels + 1) part last))
      (through (behind_statement functions (levels + 1) part last) (behind_otherwise functions (levels + 1) other behind)))
  behind_statement_kind functions levels (while_loop test body) behind =
      one_more
      (through (behind_test (levels + 1) test (statement_pieces functions (levels + 1) body behind)) (behind_statement functions (levels + 1) body behind))
  behind_statement_kind functions levels (do_loop body end test) behind =
      let last = token (sign S.Semicolon) ∷ behind in
      one_more
      (through (behind_statement functions (levels + 1) body (look (is_at end) ∷ token (sign S.While) ∷ test_pieces (levels + 1) test last))
      (one_more (one_more (through (behind_test (levels + 1) test last) (one_more itself)))))
  behind_statement_kind functions levels (for_loop start test step body) behind =
      let inner = statement_pieces functions (levels + 1) body behind in
      let last = token (sign S.Semicolon) ∷ finish_pieces (levels + 1) step inner in
      one_more (one_more
      (through (behind_start functions (levels + 1) start (optional_pieces (levels + 1) test last))
      (through (behind_optional (levels + 1) test last)
      (one_more (through (behind_finish (levels + 1) step inner) (behind_statement functions (levels + 1) body behind))))))
  behind_statement_kind functions levels (return value) behind =
      one_more (through (behind_optional levels value (token (sign S.Semicolon) ∷ behind)) (one_more itself))
  behind_statement_kind functions levels break behind = one_more (one_more itself)
  behind_statement_kind functions levels continue behind = one_more (one_more itself)

  behind_otherwise : (functions : Bool) (levels : ℕ) (other : Otherwise) (behind : List Piece) → EndsWith (otherwise_pieces functions levels other behind) behind
  behind_otherwise functions levels without behind = one_more itself
  behind_otherwise functions levels (otherwise s) behind = one_more (behind_statement functions (levels + 1) s behind)

  behind_items : (functions : Bool) (levels : ℕ) (all : Items) (behind : List Piece) → EndsWith (items_pieces functions levels all behind) behind
  behind_items functions levels none behind = itself
  behind_items functions levels (declaration d more) behind =
      through (behind_declaration functions levels d.part d.more (items_pieces functions levels more behind)) (behind_items functions levels more behind)
  behind_items functions levels (statement s more) behind =
      through (behind_statement functions levels s (items_pieces functions levels more behind)) (behind_items functions levels more behind)

behind_further_parameters : (more : List Name) (behind : List Piece) → EndsWith (further_parameters_pieces more behind) behind
behind_further_parameters [] behind = one_more itself
behind_further_parameters (x ∷ more) behind = one_more (one_more (one_more (one_more (behind_further_parameters more behind))))

pub behind_parameters : (parameters : Parameters) (behind : List Piece) → EndsWith (parameters_pieces parameters behind) behind
behind_parameters (nothing void) behind = behind_void void behind
behind_parameters (named x more) behind = one_more (one_more (one_more (behind_further_parameters more behind)))

pub behind_functions : (functions : Bool) (all : List Function) (behind : List Piece) → EndsWith (functions_pieces functions all behind) behind
behind_functions functions [] behind = itself
behind_functions functions (f ∷ more) behind =
    let rest = functions_pieces functions more behind in
    let last = token (sign S.CloseBrace) ∷ look (is_at f.behind) ∷ rest in
    let body = token (opening S.OpenBrace 1) ∷ items_pieces functions 1 f.items last in
    one_more (one_more (one_more (one_more
    (through (behind_allowed functions (parameters_pieces f.parameters body))
    (through (behind_parameters f.parameters body)
    (one_more (through (behind_items functions 1 f.items last) (one_more (one_more (behind_functions functions more behind))))))))))
