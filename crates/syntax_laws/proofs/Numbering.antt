-- Each tree can be given the numbers of its tokens.
use Rattle.std.proofs.Common.{◌≡◌, ℕ, ◌+◌, ℤ, Bool, true, false, List, [], ◌∷◌, Option, None, Some, refl, ap, sym, ◌∙◌, subst}
use Rattle.std.specs.Bool.{IsFalse}
use Rattle.derivation.specs.declared.symbol.Symbol.TheVariants as S
use Rattle.derivation.specs.Word.{number as numbered}
use Rattle.derivation.specs.Pieces.{token, look, first_before, Fits}
use Rattle.concrete_syntax.specs.Trees.{Divisor, End, Operand, operand_at, OperandKind, number, name, truth, unknown, call, signed, parentheses, range, Link, operation, division, Tail, ended, further, Expression, Name, Action, assigns, steps, Simple, acts, steps_before, Call, Value, evaluates, answers, Part, Declaration, Start, starts_with_nothing, starts_with, declares, Statement, statement_at, StatementKind, simple, calls, gives, skip, braces, conditional, while_loop, do_loop, for_loop, return, break, continue, Otherwise, without, otherwise, Items, none, declaration, statement, Prelude, extern_call, typedef_bool, Parameters, nothing, named, Function, Program}
use Rattle.source_syntax.specs.Language.{Piece, is_at, no_operator, no_else, forbidden, link_opening, is_else}
use Rattle.source_syntax.specs.Spelling.{plain, sign, leading, opening, leading_opening, counted, sign_of, division_sign, prefix_sign, assignment_sign, size_pieces, minus_pieces, end_pieces, divisor_pieces, link_pieces, operand_pieces, operand_kind_pieces, tail_pieces, expression_pieces, optional_pieces, action_pieces, name_pieces, simple_pieces, value_pieces, initialiser_pieces, part_pieces, parts_pieces, declaration_pieces, start_pieces, finish_pieces, test_pieces, statement_pieces, statement_kind_pieces, otherwise_pieces, items_pieces, void_pieces, prelude_pieces, preludes_pieces, where_allowed, arguments_pieces, further_arguments_pieces, call_pieces, parameters_pieces, further_parameters_pieces, type_sign, function_end_pieces, functions_pieces, main_end_pieces, program_pieces}
use Rattle.syntax_laws.specs.Numbering.{FitsButForNumbers, tokens_in, TreesCanBeNumbered}

-- the same pieces, where each number that is asked for is the right one
abbrev renumbered : ℕ → List Piece → List Piece
renumbered n [] = []
renumbered n (token t ∷ more) = token t ∷ renumbered (n + 1) more
renumbered n (look (is_at m) ∷ more) = look (is_at n) ∷ renumbered n more
renumbered n (look no_operator ∷ more) = look no_operator ∷ renumbered n more
renumbered n (look no_else ∷ more) = look no_else ∷ renumbered n more
renumbered n (look forbidden ∷ more) = look forbidden ∷ renumbered n more

same_first : (n : ℕ) (pieces : List Piece) → first_before (renumbered n pieces) None ≡ first_before pieces None
same_first n [] = refl
same_first n (token t ∷ more) = refl
same_first n (look (is_at m) ∷ more) = same_first n more
same_first n (look no_operator ∷ more) = same_first n more
same_first n (look no_else ∷ more) = same_first n more
same_first n (look forbidden ∷ more) = same_first n more

same_tokens : (n : ℕ) (pieces : List Piece) → tokens_in (renumbered n pieces) ≡ tokens_in pieces
same_tokens n [] = refl
same_tokens n (token t ∷ more) = ap (λ ts. t ∷ ts) (same_tokens (n + 1) more)
same_tokens n (look (is_at m) ∷ more) = same_tokens n more
same_tokens n (look no_operator ∷ more) = same_tokens n more
same_tokens n (look no_else ∷ more) = same_tokens n more
same_tokens n (look forbidden ∷ more) = same_tokens n more

fits : (n : ℕ) (pieces : List Piece) → FitsButForNumbers pieces → Fits n (renumbered n pieces)
fits n [] h = tt
fits n (token t ∷ more) h = fits (n + 1) more h
fits n (look (is_at m) ∷ more) h = (refl, fits n more h)
fits n (look no_operator ∷ more) h = (ap link_opening (same_first n more) ∙ h.0, fits n more h.1)
fits n (look no_else ∷ more) h = (subst (λ next. IsFalse (is_else next)) (sym (same_first n more)) h.0, fits n more h.1)
fits n (look forbidden ∷ more) h = (h.0, fits n more h.1)

-- What a tree spells before others, with right numbers, is what another one spells before these, from a number on.
abbrev IsNumbered : {X : Type 0} → (X → List Piece → List Piece) → ℕ → X → List Piece → Type 0
IsNumbered {X} pieces n x behind = (y : X) × (m : ℕ) × (renumbered n (pieces x behind) ≡ pieces y (renumbered m behind))

-- and what holds no numbers is spelled as it was
abbrev IsKept : (List Piece → List Piece) → ℕ → List Piece → Type 0
IsKept pieces n behind = (m : ℕ) × (renumbered n (pieces behind) ≡ pieces (renumbered m behind))

size_kept : (n : ℕ) (size : Option ℤ) (behind : List Piece) → IsKept (size_pieces size) n behind
size_kept n (Some z) behind = (n + 1, refl)
size_kept n None behind = (n + 1, refl)

minus_kept : (n : ℕ) (negative : Bool) (behind : List Piece) → IsKept (minus_pieces negative) n behind
minus_kept n true behind = (n + 1, refl)
minus_kept n false behind = (n, refl)

end_kept : (n : ℕ) (end : End) (behind : List Piece) → IsKept (end_pieces end) n behind
end_kept n end behind =
    let minus = minus_kept n end.negative (size_pieces end.size behind) in
    let size = size_kept minus.0 end.size behind in
    (size.0, minus.1 ∙ ap (minus_pieces end.negative) size.1)

void_kept : (n : ℕ) (void : Bool) (behind : List Piece) → IsKept (void_pieces void) n behind
void_kept n true behind = (n + 1 + 1, refl)
void_kept n false behind = (n + 1, refl)

prelude_kept : (n : ℕ) (prelude : Prelude) (behind : List Piece) → IsKept (prelude_pieces prelude) n behind
prelude_kept n (extern_call void) behind =
    let rest = void_kept (n + 1 + 1 + 1 + 1) void (token (sign S.Semicolon) ∷ behind) in (
      rest.0 + 1,
      ap (λ ps. token (sign S.Extern) ∷ token (sign S.Int) ∷ token (sign S.Nondeterministic) ∷ token (sign S.OpenParenthesis) ∷ ps) rest.1,
    )
prelude_kept n typedef_bool behind = (n + 1 + 1 + 1 + 1 + 1 + 1 + 1 + 1 + 1, refl)

preludes_kept : (n : ℕ) (preludes : List Prelude) (behind : List Piece) → IsKept (preludes_pieces preludes) n behind
preludes_kept n [] behind = (n, refl)
preludes_kept n (prelude ∷ more) behind =
    let this = prelude_kept n prelude (preludes_pieces more behind) in
    let rest = preludes_kept this.0 more behind in
    (rest.0, this.1 ∙ ap (prelude_pieces prelude) rest.1)

allowed_kept : (n : ℕ) (functions : Bool) (behind : List Piece) → IsKept (where_allowed functions) n behind
allowed_kept n true behind = (n, refl)
allowed_kept n false behind = (n, refl)

-- ── Expressions ──

divisor_numbered : (n : ℕ) (d : Divisor) (behind : List Piece) → IsNumbered divisor_pieces n d behind
divisor_numbered n d behind =
    let minus = minus_kept n d.negative (look (is_at d.at) ∷ token (plain (numbered d.size)) ∷ behind) in
    (record { negative = d.negative; at = minus.0; size = d.size }, minus.0 + 1, minus.1)

mutual
  operand_numbered : (levels n : ℕ) (e : Operand) (behind : List Piece) → IsNumbered (operand_pieces levels) n e behind
  operand_numbered levels n (operand_at at kind) behind =
      let this = operand_kind_numbered levels n kind behind in
      (operand_at n this.0, this.1, ap (λ ps. look (is_at n) ∷ ps) this.2)

  operand_kind_numbered : (levels n : ℕ) (kind : OperandKind) (behind : List Piece) → IsNumbered (operand_kind_pieces levels) n kind behind
  operand_kind_numbered levels n (number z) behind = (number z, n + 1, refl)
  operand_kind_numbered levels n (name x) behind = (name x, n + 1, refl)
  operand_kind_numbered levels n (truth b) behind = (truth b, n + 1, refl)
  operand_kind_numbered levels n unknown behind = (unknown, n + 1, refl)
  operand_kind_numbered levels n call behind = (call, n + 1 + 1 + 1, refl)
  operand_kind_numbered levels n (signed prefix e) behind =
      let this = operand_numbered (levels + 1) (n + 1) e behind in
      (signed prefix this.0, this.1, ap (λ ps. token (opening (prefix_sign prefix) (levels + 1)) ∷ ps) this.2)
  operand_kind_numbered levels n (parentheses e more) behind =
      let last = token (sign S.CloseParenthesis) ∷ behind in
      let this = operand_numbered (levels + 1) (n + 1) e (tail_pieces (levels + 1) more last) in
      let rest = tail_numbered (levels + 1) this.1 more last in (
        parentheses this.0 rest.0,
        rest.1 + 1,
        ap (λ ps. token (opening S.OpenParenthesis (levels + 1)) ∷ ps) (this.2 ∙ ap (operand_pieces (levels + 1) this.0) rest.2),
      )
  operand_kind_numbered levels n (range lo hi) behind =
      let last = token (sign S.CloseBracket) ∷ behind in
      let low = end_kept (n + 1) lo (token (sign S.Comma) ∷ end_pieces hi last) in
      let high = end_kept (low.0 + 1) hi last in (
        range lo hi,
        high.0 + 1,
        ap (λ ps. token (sign S.OpenBracket) ∷ ps) (low.1 ∙ ap (λ ps. end_pieces lo (token (sign S.Comma) ∷ ps)) high.1),
      )

  tail_numbered : (levels n : ℕ) (more : Tail) (behind : List Piece) → IsNumbered (tail_pieces levels) n more behind
  tail_numbered levels n ended behind = (ended, n, refl)
  tail_numbered levels n (further link more) behind =
      let this = link_numbered levels n link (tail_pieces levels more behind) in
      let rest = tail_numbered levels this.1 more behind in
      (further this.0 rest.0, rest.1, this.2 ∙ ap (link_pieces levels this.0) rest.2)

  link_numbered : (levels n : ℕ) (link : Link) (behind : List Piece) → IsNumbered (link_pieces levels) n link behind
  link_numbered levels n (operation op e) behind =
      let this = operand_numbered levels (n + 1) e behind in
      (operation op this.0, this.1, ap (λ ps. token (counted (sign_of op)) ∷ ps) this.2)
  link_numbered levels n (division sign d) behind =
      let this = divisor_numbered (n + 1) d behind in
      (division sign this.0, this.1, ap (λ ps. token (counted (division_sign sign)) ∷ ps) this.2)

expression_numbered : (levels n : ℕ) (e : Expression) (behind : List Piece) → IsNumbered (expression_pieces levels) n e behind
expression_numbered levels n e behind =
    let this = operand_numbered levels n e.operand (tail_pieces levels e.tail behind) in
    let rest = tail_numbered levels this.1 e.tail behind in
    (record { operand = this.0; tail = rest.0 }, rest.1, this.2 ∙ ap (operand_pieces levels this.0) rest.2)

optional_numbered : (levels n : ℕ) (e : Option Expression) (behind : List Piece) → IsNumbered (optional_pieces levels) n e behind
optional_numbered levels n (Some e) behind = let this = expression_numbered levels n e behind in (Some this.0, this.1, this.2)
optional_numbered levels n None behind = (None, n, refl)

test_numbered : (levels n : ℕ) (e : Expression) (behind : List Piece) → IsNumbered (test_pieces levels) n e behind
test_numbered levels n e behind =
    let this = expression_numbered (levels + 1) (n + 1) e (token (sign S.CloseParenthesis) ∷ behind) in
    (this.0, this.1 + 1, ap (λ ps. token (leading_opening S.OpenParenthesis (levels + 1)) ∷ ps) this.2)

-- ── Simple statements ──

abbrev at_number : ℕ → Name → Name
at_number n x = record { at = n; bytes = x.bytes }

action_numbered : (levels n : ℕ) (action : Action) (behind : List Piece) → IsNumbered (action_pieces levels) n action behind
action_numbered levels n (assigns assignment e) behind =
    let this = expression_numbered levels (n + 1) e behind in
    (assigns assignment this.0, this.1, ap (λ ps. token (leading (assignment_sign assignment)) ∷ ps) this.2)
action_numbered levels n (steps step) behind = (steps step, n + 1, refl)

simple_numbered : (levels n : ℕ) (s : Simple) (behind : List Piece) → IsNumbered (simple_pieces levels) n s behind
simple_numbered levels n (acts x action) behind =
    let this = action_numbered levels (n + 1) action behind in
    (acts (at_number n x) this.0, this.1, ap (name_pieces (at_number n x)) this.2)
simple_numbered levels n (steps_before at step x) behind = (steps_before n step (at_number (n + 1) x), n + 1 + 1, refl)

finish_numbered : (levels n : ℕ) (s : Option Simple) (behind : List Piece) → IsNumbered (finish_pieces levels) n s behind
finish_numbered levels n (Some s) behind =
    let this = simple_numbered levels n s (token (sign S.CloseParenthesis) ∷ behind) in (Some this.0, this.1 + 1, this.2)
finish_numbered levels n None behind = (None, n + 1, refl)

-- ── Calls ──

further_arguments_numbered : (levels n : ℕ) (arguments : List Expression) (behind : List Piece) → IsNumbered (further_arguments_pieces levels) n arguments behind
further_arguments_numbered levels n [] behind = ([], n + 1, refl)
further_arguments_numbered levels n (e ∷ more) behind =
    let this = expression_numbered levels (n + 1) e (further_arguments_pieces levels more behind) in
    let rest = further_arguments_numbered levels this.1 more behind in
    (this.0 ∷ rest.0, rest.1, ap (λ ps. token (leading S.Comma) ∷ ps) (this.2 ∙ ap (expression_pieces levels this.0) rest.2))

arguments_numbered : (levels n : ℕ) (arguments : List Expression) (behind : List Piece) → IsNumbered (arguments_pieces levels) n arguments behind
arguments_numbered levels n [] behind = ([], n + 1, refl)
arguments_numbered levels n (e ∷ more) behind =
    let this = expression_numbered levels n e (further_arguments_pieces levels more behind) in
    let rest = further_arguments_numbered levels this.1 more behind in
    (this.0 ∷ rest.0, rest.1, this.2 ∙ ap (expression_pieces levels this.0) rest.2)

call_numbered : (functions : Bool) (levels n : ℕ) (c : Call) (behind : List Piece) → IsNumbered (call_pieces functions levels) n c behind
call_numbered functions levels n c behind =
    let allowed = allowed_kept (n + 1 + 1) functions (arguments_pieces levels c.arguments behind) in
    let inner = arguments_numbered levels allowed.0 c.arguments behind in (
      record { function = at_number n c.function; arguments = inner.0 },
      inner.1,
      ap (λ ps. name_pieces (at_number n c.function) (token (leading S.OpenParenthesis) ∷ ps)) (allowed.1 ∙ ap (where_allowed functions) inner.2),
    )

-- ── Declarations ──

value_numbered : (functions : Bool) (levels n : ℕ) (value : Value) (behind : List Piece) → IsNumbered (value_pieces functions levels) n value behind
value_numbered functions levels n (evaluates e) behind = let this = expression_numbered levels n e behind in (evaluates this.0, this.1, this.2)
value_numbered functions levels n (answers c) behind = let this = call_numbered functions levels n c behind in (answers this.0, this.1, this.2)

initialiser_numbered : (functions : Bool) (levels n : ℕ) (value : Option Value) (behind : List Piece)
    → IsNumbered (initialiser_pieces functions levels) n value behind
initialiser_numbered functions levels n (Some value) behind =
    let this = value_numbered functions levels (n + 1) value behind in
    (Some this.0, this.1, ap (λ ps. token (leading S.Assign) ∷ ps) this.2)
initialiser_numbered functions levels n None behind = (None, n, refl)

part_numbered : (functions : Bool) (levels n : ℕ) (part : Part) (behind : List Piece) → IsNumbered (part_pieces functions levels) n part behind
part_numbered functions levels n part behind =
    let this = initialiser_numbered functions levels (n + 1) part.initialiser behind in
    (record { declared = at_number n part.declared; initialiser = this.0 }, this.1, ap (name_pieces (at_number n part.declared)) this.2)

parts_numbered : (functions : Bool) (levels n : ℕ) (parts : List Part) (behind : List Piece) → IsNumbered (parts_pieces functions levels) n parts behind
parts_numbered functions levels n [] behind = ([], n + 1, refl)
parts_numbered functions levels n (part ∷ more) behind =
    let this = part_numbered functions levels (n + 1) part (parts_pieces functions levels more behind) in
    let rest = parts_numbered functions levels this.1 more behind in
    (this.0 ∷ rest.0, rest.1, ap (λ ps. token (sign S.Comma) ∷ ps) (this.2 ∙ ap (part_pieces functions levels this.0) rest.2))

declaration_numbered : (functions : Bool) (levels n : ℕ) (d : Declaration) (behind : List Piece) → IsNumbered (declaration_pieces functions levels) n d behind
declaration_numbered functions levels n d behind =
    let this = part_numbered functions levels (n + 1) d.part (parts_pieces functions levels d.more behind) in
    let rest = parts_numbered functions levels this.1 d.more behind in
    (record { part = this.0; more = rest.0 }, rest.1, ap (λ ps. token (sign S.Int) ∷ ps) (this.2 ∙ ap (part_pieces functions levels this.0) rest.2))

start_numbered : (functions : Bool) (levels n : ℕ) (start : Start) (behind : List Piece) → IsNumbered (start_pieces functions levels) n start behind
start_numbered functions levels n starts_with_nothing behind = (starts_with_nothing, n + 1, refl)
start_numbered functions levels n (starts_with s) behind =
    let this = simple_numbered levels n s (token (leading S.Semicolon) ∷ behind) in (starts_with this.0, this.1 + 1, this.2)
start_numbered functions levels n (declares d) behind = let this = declaration_numbered functions levels n d behind in (declares this.0, this.1, this.2)

-- ── Statements ──

mutual
  statement_numbered : (functions : Bool) (levels n : ℕ) (s : Statement) (behind : List Piece) → IsNumbered (statement_pieces functions levels) n s behind
  statement_numbered functions levels n (statement_at at kind) behind =
      let this = statement_kind_numbered functions levels n kind behind in
      (statement_at n this.0, this.1, ap (λ ps. look (is_at n) ∷ ps) this.2)

  statement_kind_numbered : (functions : Bool) (levels n : ℕ) (kind : StatementKind) (behind : List Piece) → IsNumbered (statement_kind_pieces functions levels) n kind behind
  statement_kind_numbered functions levels n (simple s) behind =
      let this = simple_numbered levels n s (token (sign S.Semicolon) ∷ behind) in (simple this.0, this.1 + 1, this.2)
  statement_kind_numbered functions levels n (calls c) behind =
      let this = call_numbered functions levels n c (token (sign S.Semicolon) ∷ behind) in (calls this.0, this.1 + 1, this.2)
  statement_kind_numbered functions levels n (gives x c) behind =
      let this = call_numbered functions levels (n + 1 + 1) c (token (sign S.Semicolon) ∷ behind) in
      (gives (at_number n x) this.0, this.1 + 1, ap (λ ps. name_pieces (at_number n x) (token (leading S.Assign) ∷ ps)) this.2)
  statement_kind_numbered functions levels n skip behind = (skip, n + 1, refl)
  statement_kind_numbered functions levels n (braces all) behind =
      let this = items_numbered functions (levels + 1) (n + 1) all (token (sign S.CloseBrace) ∷ behind) in
      (braces this.0, this.1 + 1, ap (λ ps. token (opening S.OpenBrace (levels + 1)) ∷ ps) this.2)
  statement_kind_numbered functions levels n (conditional test part other) behind =
      let last = otherwise_pieces functions (levels + 1) other behind in
      let tested = test_numbered (levels + 1) (n + 1) test (statement_pieces functions (levels + 1) part last) in
      let this = statement_numbered functions (levels + 1) tested.1 part last in
      let rest = otherwise_numbered functions (levels + 1) this.1 other behind in (
        conditional tested.0 this.0 rest.0,
        rest.1,
        ap (λ ps. token (opening S.If (levels + 1)) ∷ ps)
            (tested.2 ∙ ap (test_pieces (levels + 1) tested.0) (this.2 ∙ ap (statement_pieces functions (levels + 1) this.0) rest.2)),
      )
  statement_kind_numbered functions levels n (while_loop test body) behind =
      let tested = test_numbered (levels + 1) (n + 1) test (statement_pieces functions (levels + 1) body behind) in
      let this = statement_numbered functions (levels + 1) tested.1 body behind in (
        while_loop tested.0 this.0,
        this.1,
        ap (λ ps. token (opening S.While (levels + 1)) ∷ ps) (tested.2 ∙ ap (test_pieces (levels + 1) tested.0) this.2),
      )
  statement_kind_numbered functions levels n (do_loop body end test) behind =
      let last = token (sign S.Semicolon) ∷ behind in
      let this = statement_numbered functions (levels + 1) (n + 1) body (look (is_at end) ∷ token (sign S.While) ∷ test_pieces (levels + 1) test last) in
      let tested = test_numbered (levels + 1) (this.1 + 1) test last in (
        do_loop this.0 this.1 tested.0,
        tested.1 + 1,
        ap (λ ps. token (opening S.Do (levels + 1)) ∷ ps)
            (this.2 ∙ ap (λ ps. statement_pieces functions (levels + 1) this.0 (look (is_at this.1) ∷ token (sign S.While) ∷ ps)) tested.2),
      )
  statement_kind_numbered functions levels n (for_loop start test step body) behind =
      let inner = statement_pieces functions (levels + 1) body behind in
      let last = token (sign S.Semicolon) ∷ finish_pieces (levels + 1) step inner in
      let begun = start_numbered functions (levels + 1) (n + 1 + 1) start (optional_pieces (levels + 1) test last) in
      let tested = optional_numbered (levels + 1) begun.1 test last in
      let stepped = finish_numbered (levels + 1) (tested.1 + 1) step inner in
      let this = statement_numbered functions (levels + 1) stepped.1 body behind in (
        for_loop begun.0 tested.0 stepped.0 this.0,
        this.1,
        ap (λ ps. token (opening S.For (levels + 1)) ∷ token (sign S.OpenParenthesis) ∷ ps)
            (begun.2
            ∙ ap (start_pieces functions (levels + 1) begun.0)
            (tested.2
            ∙ ap (λ ps. optional_pieces (levels + 1) tested.0 (token (sign S.Semicolon) ∷ ps))
            (stepped.2 ∙ ap (finish_pieces (levels + 1) stepped.0) this.2))),
      )
  statement_kind_numbered functions levels n (return value) behind =
      let this = optional_numbered levels (n + 1) value (token (sign S.Semicolon) ∷ behind) in
      (return this.0, this.1 + 1, ap (λ ps. token (leading S.Return) ∷ ps) this.2)
  statement_kind_numbered functions levels n break behind = (break, n + 1 + 1, refl)
  statement_kind_numbered functions levels n continue behind = (continue, n + 1 + 1, refl)

  otherwise_numbered : (functions : Bool) (levels n : ℕ) (other : Otherwise) (behind : List Piece) → IsNumbered (otherwise_pieces functions levels) n other behind
  otherwise_numbered functions levels n without behind = (without, n, refl)
  otherwise_numbered functions levels n (otherwise s) behind =
      let this = statement_numbered functions (levels + 1) (n + 1) s behind in
      (otherwise this.0, this.1, ap (λ ps. token (opening S.Else (levels + 1)) ∷ ps) this.2)

  items_numbered : (functions : Bool) (levels n : ℕ) (all : Items) (behind : List Piece) → IsNumbered (items_pieces functions levels) n all behind
  items_numbered functions levels n none behind = (none, n, refl)
  items_numbered functions levels n (declaration d more) behind =
      let this = declaration_numbered functions levels n d (items_pieces functions levels more behind) in
      let rest = items_numbered functions levels this.1 more behind in
      (declaration this.0 rest.0, rest.1, this.2 ∙ ap (declaration_pieces functions levels this.0) rest.2)
  items_numbered functions levels n (statement s more) behind =
      let this = statement_numbered functions levels n s (items_pieces functions levels more behind) in
      let rest = items_numbered functions levels this.1 more behind in
      (statement this.0 rest.0, rest.1, this.2 ∙ ap (statement_pieces functions levels this.0) rest.2)

-- ── Programs ──

further_parameters_numbered : (n : ℕ) (parameters : List Name) (behind : List Piece) → IsNumbered further_parameters_pieces n parameters behind
further_parameters_numbered n [] behind = ([], n + 1, refl)
further_parameters_numbered n (x ∷ more) behind =
    let rest = further_parameters_numbered (n + 1 + 1 + 1) more behind in (
      at_number (n + 1 + 1) x ∷ rest.0,
      rest.1,
      ap (λ ps. token (sign S.Comma) ∷ token (sign S.Int) ∷ name_pieces (at_number (n + 1 + 1) x) ps) rest.2,
    )

parameters_numbered : (n : ℕ) (parameters : Parameters) (behind : List Piece) → IsNumbered parameters_pieces n parameters behind
parameters_numbered n (nothing void) behind = let written = void_kept n void behind in (nothing void, written.0, written.1)
parameters_numbered n (named x more) behind =
    let rest = further_parameters_numbered (n + 1 + 1) more behind in
    (named (at_number (n + 1) x) rest.0, rest.1, ap (λ ps. token (sign S.Int) ∷ name_pieces (at_number (n + 1) x) ps) rest.2)

function_numbered : (functions : Bool) (n : ℕ) (f : Function) (behind : List Piece) → IsNumbered (function_end_pieces functions) n f behind
function_numbered functions n f behind =
    let last = token (sign S.CloseBrace) ∷ look (is_at f.behind) ∷ behind in
    let body = token (opening S.OpenBrace 1) ∷ items_pieces functions 1 f.items last in
    let allowed = allowed_kept (n + 1 + 1) functions (parameters_pieces f.parameters body) in
    let inner = parameters_numbered allowed.0 f.parameters body in
    let all = items_numbered functions 1 (inner.1 + 1) f.items last in (
      record { valued = f.valued; name = at_number n f.name; parameters = inner.0; items = all.0; behind = all.1 + 1 },
      all.1 + 1,
      ap (λ ps. name_pieces (at_number n f.name) (token (sign S.OpenParenthesis) ∷ ps))
          (allowed.1 ∙ ap (where_allowed functions) (inner.2 ∙ ap (λ ps. parameters_pieces inner.0 (token (opening S.OpenBrace 1) ∷ ps)) all.2)),
    )

-- its type isn't among what stands behind it
abbrev of_type : Bool → Function → Function
of_type valued f = record { valued = valued; name = f.name; parameters = f.parameters; items = f.items; behind = f.behind }

functions_numbered : (functions : Bool) (n : ℕ) (list : List Function) (behind : List Piece) → IsNumbered (functions_pieces functions) n list behind
functions_numbered functions n [] behind = ([], n, refl)
functions_numbered functions n (f ∷ more) behind =
    let this = function_numbered functions (n + 1) f (functions_pieces functions more behind) in
    let rest = functions_numbered functions this.1 more behind in
    (of_type f.valued this.0 ∷ rest.0, rest.1, ap (λ ps. token (sign (type_sign f.valued)) ∷ ps) (this.2 ∙ ap (function_end_pieces functions this.0) rest.2))

main_numbered : (functions void : Bool) (n : ℕ) (all : Items) (behind : List Piece) → IsNumbered (main_end_pieces functions void) n all behind
main_numbered functions void n all behind =
    let last = token (sign S.CloseBrace) ∷ behind in
    let written = void_kept (n + 1) void (token (opening S.OpenBrace 1) ∷ items_pieces functions 1 all last) in
    let inner = items_numbered functions 1 (written.0 + 1) all last in (
      inner.0,
      inner.1 + 1,
      ap (λ ps. token (sign S.OpenParenthesis) ∷ ps) (written.1 ∙ ap (λ ps. void_pieces void (token (opening S.OpenBrace 1) ∷ ps)) inner.2),
    )

program_numbered : (functions : Bool) (n : ℕ) (p : Program) (behind : List Piece) → IsNumbered (program_pieces functions) n p behind
program_numbered functions n p behind =
    let last = token (sign S.Int) ∷ token (sign S.Main) ∷ main_end_pieces functions p.void p.items behind in
    let before = preludes_kept n p.preludes (functions_pieces functions p.functions last) in
    let list = functions_numbered functions before.0 p.functions last in
    let main = main_numbered functions p.void (list.1 + 1 + 1) p.items behind in (
      record { preludes = p.preludes; functions = list.0; void = p.void; items = main.0 },
      main.1,
      before.1
          ∙ ap (preludes_pieces p.preludes) (list.2 ∙ ap (λ ps. functions_pieces functions list.0 (token (sign S.Int) ∷ token (sign S.Main) ∷ ps)) main.2),
    )

pub trees_can_be_numbered : TreesCanBeNumbered
trees_can_be_numbered functions p h =
    let numbered = program_numbered functions 0 p [] in (
      numbered.0,
      subst (Fits 0) numbered.2 (fits 0 (program_pieces functions p []) h),
      ap tokens_in (sym numbered.2) ∙ same_tokens 0 (program_pieces functions p []),
    )
