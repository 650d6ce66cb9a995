-- A program has no more statements than its text has bytes.
use Rattle.std.proofs.Common.{◌≡◌, Bool, false, ℕ, suc, ◌+◌, ◌≤◌, List, [], ◌∷◌, ◌++◌, Option, None, Some, length, All, ap, arith}
use Rattle.std.proofs.lemmas.List.{length-map}
use Rattle.derivation.specs.declared.symbol.Symbol.TheVariants as S
use Rattle.derivation.specs.Word.{word}
use Rattle.derivation.specs.Pieces.{token, look, spelling}
use Rattle.source_lex.specs.Laws.{TokensAreInOrder}
use Rattle.source_lex.specs.Spans.{IsWithin, InOrderFrom}
use Rattle.source_lex.specs.declared.token.Token.{Token}
use Rattle.step_meaning.specs.Syntax as syntax
use Rattle.call_meaning.specs.Units.{Command, of_list, while_loop as while_command}
use Rattle.concrete_syntax.specs.Trees.{Name, Simple, acts, steps_before, Value, evaluates, answers, Part, Start, starts_with_nothing, starts_with, declares, Statement, statement_at, StatementKind, simple, calls, gives, skip, braces, conditional, while_loop, do_loop, for_loop, return, break, continue, Otherwise, without, otherwise, Items, none, declaration, statement, Program}
use Rattle.source_syntax.specs.Language.{Piece, is_at}
use Rattle.source_syntax.specs.Spelling.{sign, leading, opening, optional_pieces, simple_pieces, initialiser_pieces, part_pieces, parts_pieces, start_pieces, finish_pieces, test_pieces, statement_pieces, statement_kind_pieces, otherwise_pieces, items_pieces, functions_pieces, main_end_pieces, program_pieces}
use Rattle.elaboration.specs.declared.context.Body.TheVariants.{Main}
use Rattle.elaboration.specs.Contexts.{Context, at_top, deeper, looping}
use Rattle.elaboration.specs.Functions.{no_functions}
use Rattle.typed_expressions.specs.Scopes.{Scope, declare, no_names}
use Rattle.elaboration.proofs.Following.{follow}
use Rattle.elaboration.specs.Guards.{guards, around_statement, around_rest}
use Rattle.elaboration.specs.Statements.{is_bare, simple_meaning, optional_simple_walked, initialiser_walked, part_walked, parts_walked, declaration_walked, start_walked, optional_test, followed, statement_walked, kind_walked, otherwise_walked, items_walked}
use Rattle.elaboration.specs.Elaborates.{known, plain, plain_body, variables_behind}
use Rattle.source_parse.specs.Derives.{IsProgramText}
use Rattle.source_parse.proofs.Behind.{EndsWith, behind_optional, behind_action, behind_call, behind_functions, behind_initialiser, behind_test, behind_void, behind_preludes}

-- how many statements a list has, inner ones included
abbrev size : List Command → ℕ
size xs = syntax.size_of (plain (of_list xs))

size_append : (xs ys : List Command) → size (xs ++ ys) ≡ size xs + size ys
size_append [] ys = omega arith
size_append (x ∷ xs) ys = omega (arith, size_append xs ys)

size_followed : (guarded : Bool) (xs ys : List Command) → size (followed guarded xs ys) ≤ size xs + size ys
size_followed guarded xs ys =
    follow (λ all. size all ≤ size xs + size ys) guarded xs ys (omega (arith, size_append xs ys))
    (λ test first second is. omega (arith, ap size is))

-- how many words the pieces spell
abbrev count : List Piece → ℕ
count pieces = length (spelling pieces)

count_append : (xs ys : List Piece) → count (xs ++ ys) ≡ count xs + count ys
count_append [] ys = omega arith
count_append (token t ∷ xs) ys = omega (arith, count_append xs ys)
count_append (look l ∷ xs) ys = count_append xs ys

fewer : {pieces behind : List Piece} → EndsWith pieces behind → count behind ≤ count pieces
fewer {pieces} {behind} h = omega (arith, ap count h.parted, count_append h.front behind)

-- What a tree stands for has no more statements than it spells words.
simple_size : (scope : Scope) (levels : ℕ) (s : Simple) (behind : List Piece)
    → size (simple_meaning scope s ∷ []) + count behind ≤ count (simple_pieces levels s behind)
simple_size scope levels (acts x action) behind = omega (arith, fewer (behind_action levels action behind))
simple_size scope levels (steps_before at step x) behind = omega arith

finish_size : (scope : Scope) (levels : ℕ) (s : Option Simple) (behind : List Piece)
    → size (optional_simple_walked scope s).body + count behind ≤ count (finish_pieces levels s behind)
finish_size scope levels (Some s) behind = omega (arith, simple_size scope levels s (token (sign S.CloseParenthesis) ∷ behind))
finish_size scope levels None behind = omega arith

initialiser_size : (functions : Bool) (c : Context) (scope inner : Scope) (levels : ℕ) (x : Name) (value : Option Value) (behind : List Piece)
    → size (initialiser_walked c scope inner x value).body + count behind ≤ 1 + count (initialiser_pieces functions levels value behind)
initialiser_size functions c scope inner levels x (Some (evaluates e)) behind =
    omega (arith, fewer (behind_initialiser functions levels (Some (evaluates e)) behind))
initialiser_size functions c scope inner levels x (Some (answers call)) behind =
    omega (arith, fewer (behind_initialiser functions levels (Some (answers call)) behind))
initialiser_size functions c scope inner levels x None behind = omega arith

part_size : (functions : Bool) (c : Context) (scope : Scope) (levels : ℕ) (part : Part) (behind : List Piece)
    → size (part_walked c scope part).body + count behind ≤ count (part_pieces functions levels part behind)
part_size functions c scope levels part behind =
    let inner = declare scope part.declared.bytes (is_bare part.initialiser) in
    omega (arith, initialiser_size functions c scope inner levels part.declared part.initialiser behind)

parts_size : (functions : Bool) (c : Context) (scope : Scope) (levels : ℕ) (parts : List Part) (behind : List Piece)
    → size (parts_walked c scope parts).body + count behind ≤ count (parts_pieces functions levels parts behind)
parts_size functions c scope levels [] behind = omega arith
parts_size functions c scope levels (part ∷ more) behind =
    let w = part_walked c scope part in
    omega (
      arith,
      size_append w.body (parts_walked c w.scope more).body,
      part_size functions c scope levels part (parts_pieces functions levels more behind),
      parts_size functions c w.scope levels more behind,
    )

start_size : (functions : Bool) (c : Context) (scope : Scope) (levels : ℕ) (start : Start) (behind : List Piece)
    → size (start_walked c scope start).body + count behind ≤ count (start_pieces functions levels start behind)
start_size functions c scope levels starts_with_nothing behind = omega arith
start_size functions c scope levels (starts_with s) behind = omega (arith, simple_size scope levels s (token (leading S.Semicolon) ∷ behind))
start_size functions c scope levels (declares d) behind = omega (arith, parts_size functions c scope levels (d.part ∷ d.more) behind)

mutual
  statement_size : (functions : Bool) (c : Context) (scope : Scope) (levels : ℕ) (s : Statement) (behind : List Piece)
      → size (statement_walked c scope s).body + count behind ≤ count (statement_pieces functions levels s behind)
  statement_size functions c scope levels (statement_at at kind) behind = kind_size functions c scope levels at kind behind

  kind_size : (functions : Bool) (c : Context) (scope : Scope) (levels at : ℕ) (kind : StatementKind) (behind : List Piece)
      → size (kind_walked c scope at kind).body + count behind ≤ count (statement_kind_pieces functions levels kind behind)
  kind_size functions c scope levels at (simple s) behind = omega (arith, simple_size scope levels s (token (sign S.Semicolon) ∷ behind))
  kind_size functions c scope levels at (calls call) behind = omega (arith, fewer (behind_call functions levels call (token (sign S.Semicolon) ∷ behind)))
  kind_size functions c scope levels at (gives x call) behind =
      omega (arith, fewer (behind_call functions levels call (token (sign S.Semicolon) ∷ behind)))
  kind_size functions c scope levels at skip behind = omega arith
  kind_size functions c scope levels at (braces all) behind = omega (arith, items_size functions (deeper c) scope (levels + 1) all (token (sign S.CloseBrace) ∷ behind))
  kind_size functions c scope levels at (conditional test part other) behind =
      let last = otherwise_pieces functions (levels + 1) other behind in
      omega (
        arith,
        fewer (behind_test (levels + 1) test (statement_pieces functions (levels + 1) part last)),
        statement_size functions (deeper c) scope (levels + 1) part last,
        otherwise_size functions (deeper c) (statement_walked (deeper c) scope part).scope (levels + 1) other behind,
      )
  kind_size functions c scope levels at (while_loop test body) behind =
      omega (arith, fewer (behind_test (levels + 1) test (statement_pieces functions (levels + 1) body behind)), statement_size functions (looping c) scope (levels + 1) body behind)
  kind_size functions c scope levels at (do_loop body end test) behind =
      let last = token (sign S.Semicolon) ∷ behind in
      omega (
        arith,
        statement_size functions (looping c) scope (levels + 1) body (look (is_at end) ∷ token (sign S.While) ∷ test_pieces (levels + 1) test last),
        fewer (behind_test (levels + 1) test last),
      )
  kind_size functions c scope levels at (for_loop start test step body) behind =
      let before = start_walked (deeper c) scope start in
      let inside = before.scope in
      let inner = statement_pieces functions (levels + 1) body behind in
      let last = token (sign S.Semicolon) ∷ finish_pieces (levels + 1) step inner in
      omega (
        arith,
        size_append before.body (while_command (optional_test inside test) (of_list (statement_walked (looping c) inside body).body)
            (of_list (optional_simple_walked inside step).body) ∷ []),
        start_size functions (deeper c) scope (levels + 1) start (optional_pieces (levels + 1) test last),
        fewer (behind_optional (levels + 1) test last),
        finish_size inside (levels + 1) step inner,
        statement_size functions (looping c) inside (levels + 1) body behind,
      )
  kind_size functions c scope levels at (return value) behind = omega (arith, fewer (behind_optional levels value (token (sign S.Semicolon) ∷ behind)))
  kind_size functions c scope levels at break behind = omega arith
  kind_size functions c scope levels at continue behind = omega arith

  otherwise_size : (functions : Bool) (c : Context) (scope : Scope) (levels : ℕ) (other : Otherwise) (behind : List Piece)
      → size (otherwise_walked c scope other).body + count behind ≤ count (otherwise_pieces functions levels other behind)
  otherwise_size functions c scope levels without behind = omega arith
  otherwise_size functions c scope levels (otherwise s) behind = omega (arith, statement_size functions (deeper c) scope (levels + 1) s behind)

  items_size : (functions : Bool) (c : Context) (scope : Scope) (levels : ℕ) (all : Items) (behind : List Piece)
      → size (items_walked c scope all).body + count behind ≤ count (items_pieces functions levels all behind)
  items_size functions c scope levels none behind = omega arith
  items_size functions c scope levels (declaration d more) behind =
      omega (
        arith,
        size_append (declaration_walked c scope d).body (items_walked c (declaration_walked c scope d).scope more).body,
        parts_size functions c scope levels (d.part ∷ d.more) (items_pieces functions levels more behind),
        items_size functions c (declaration_walked c scope d).scope levels more behind,
      )
  items_size functions c scope levels (statement s more) behind =
      let inner = around_statement c s more in
      let w = statement_walked inner scope s in
      omega (
        arith,
        size_followed (guards c s) w.body (items_walked (around_rest c s) w.scope more).body,
        statement_size functions inner scope levels s (items_pieces functions levels more behind),
        items_size functions (around_rest c s) w.scope levels more behind,
      )

body_size : (p : Program) → syntax.size_of (plain_body p) ≤ count (program_pieces false p [])
body_size p =
    let close = token (sign S.CloseBrace) ∷ [] in
    let body = token (opening S.OpenBrace 1) ∷ items_pieces false 1 p.items close in
    let main = token (sign S.Int) ∷ token (sign S.Main) ∷ main_end_pieces false p.void p.items [] in
    omega (
      arith,
      fewer (behind_preludes p.preludes (functions_pieces false p.functions main)),
      fewer (behind_functions false p.functions main),
      fewer (behind_void p.void body),
      items_size false (at_top (known p) Main) (no_names (variables_behind no_functions 0 p.functions)) 1 p.items close,
    )

-- tokens that lie in order within a text are no more than its bytes
tokens_size : (text : List ℕ) (tokens : List Token) (i : ℕ) → i ≤ length text → InOrderFrom i tokens → All (IsWithin text) tokens
    → i + length tokens ≤ length text
tokens_size text [] i le order within = omega arith
tokens_size text (one ∷ tokens) i le order within =
    let first = within 0 one (omega arith) in
    let rest = tokens_size text tokens one.end first.inside order.1 (λ k d lt. within (suc k) d (omega arith)) in
    omega (arith, order.0, first.nonempty)

pub program_size : (text : List ℕ) (names : List (List ℕ)) (body : syntax.Statements) → TokensAreInOrder → IsProgramText text names body
    → syntax.size_of body ≤ length text
program_size text names body in_order h =
    let order = in_order text h.spelled.tokens h.spelled.lexed in
    omega (
      arith,
      ap syntax.size_of h.stands.means,
      body_size h.tree,
      ap length h.spelled.spelled.spelled,
      length-map h.spelled.tokens (word text),
      tokens_size text h.spelled.tokens 0 (omega arith) order.0 order.1,
    )
