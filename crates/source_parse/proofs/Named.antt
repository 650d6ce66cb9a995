-- Every name that a program declares is a word of its text, and is spelled as names are.
use Rattle.std.proofs.Common.{◌≢◌, ℕ, suc, ◌+◌, Bool, true, false, ◌||◌, nat_lt, IsTrue, if◌then◌else◌, Option, None, Some, List, [], ◌∷◌, ◌++◌, length, map, All, AllPairs, sym, subst, arith}
use Rattle.std.specs.Prelude.{⊤}
use Rattle.std.proofs.lemmas.Bool.{true≢false}
use Rattle.std.proofs.lemmas.List.Elements.{All-nil, All-cons, All-head, All-tail, All-push, All-weaker}
use Rattle.derivation.specs.declared.symbol.Symbol.{Symbol}
use Rattle.derivation.specs.declared.symbol.Symbol.TheVariants as S
use Rattle.derivation.specs.Symbols.{found, reserved_words, signs}
use Rattle.derivation.specs.Word.{Word, name as named, name_word, sign_word, word_of, words}
use Rattle.derivation.specs.Pieces.{token, look, spelling}
use Rattle.source_syntax.specs.Language.{Piece, is_at}
use Rattle.source_lex.specs.Bytes.{is_digit, is_letter, is_name_byte}
use Rattle.source_lex.specs.Lexemes.{lexeme}
use Rattle.source_lex.specs.Spellings.{SpellsName, Spells, SpellsItsKind}
use Rattle.source_lex.specs.Laws.{TokensSpellTheirKinds}
use Rattle.source_lex.specs.declared.token.Kind.{Kind}
use Rattle.source_lex.specs.declared.token.Kind.TheVariants.{Number, Name, Sign}
use Rattle.source_lex.specs.declared.token.Token.{Token}
use Rattle.concrete_syntax.specs.Trees.{Part, Start, starts_with_nothing, starts_with, declares, Statement, statement_at, StatementKind, simple, calls, gives, skip, braces, conditional, while_loop, do_loop, for_loop, return, break, continue, Otherwise, without, otherwise, Items, none, declaration, statement, Name as ParameterName, Parameters, nothing, named as named_parameters, Function, Program}
use Rattle.source_syntax.specs.Spelling.{sign, leading, opening, optional_pieces, part_pieces, parts_pieces, start_pieces, finish_pieces, test_pieces, statement_pieces, statement_kind_pieces, otherwise_pieces, items_pieces, parameters_pieces, further_parameters_pieces, functions_pieces, main_end_pieces, program_pieces}
use Rattle.call_meaning.specs.declared.statement.Func.{Func}
use Rattle.elaboration.specs.declared.context.Body.TheVariants.{Main}
use Rattle.elaboration.specs.declared.functions.Signature.{Signature}
use Rattle.elaboration.specs.Contexts.{Context, at_top, body_of, deeper, looping}
use Rattle.elaboration.specs.Functions.{Functions, no_functions, with_function}
use Rattle.typed_expressions.specs.Scopes.{Scope, Name as VariableName, declare, is_among, most_variables, no_names, with_variable}
use Rattle.elaboration.specs.Guards.{around_statement, around_rest}
use Rattle.elaboration.specs.Statements.{part_walked, parts_walked, declaration_walked, start_walked, statement_walked, kind_walked, otherwise_walked, items_walked}
use Rattle.elaboration.specs.Elaborates.{Made, behind_parameters, entered, function_made, functions_behind, functions_made, known, known_behind, made_of, names_of, others_behind, parameters_of, signature, variables_behind}
use Rattle.elaboration.proofs.Apart.{HasNoDot}
use Rattle.elaboration.proofs.Declared.{distinct_kept, items_keep}
use Rattle.source_syntax.specs.Texts.{IsTreeText as IsSyntaxOf}
use Rattle.source_parse.specs.Laws.{NamesAreDistinct, NamesAreNames, NamesOfUnitsAreNames}
use Rattle.source_parse.proofs.Behind.{EndsWith, behind_allowed, behind_call, behind_optional, behind_simple, behind_initialiser, behind_finish, behind_test, behind_void, behind_preludes}

-- the word is spelled as a name if it is one
abbrev IsNamed : Word → Type 0
IsNamed (named x) = SpellsName x
IsNamed _ = ⊤

abbrev AllNamed : List Word → Type 0
AllNamed [] = ⊤
AllNamed (word ∷ more) = IsNamed word × AllNamed more

-- the same of the words of pieces
abbrev Spelled : List Piece → Type 0
Spelled pieces = AllNamed (spelling pieces)

-- and of the names declared so far
abbrev Declared : Scope → Type 0
Declared scope = All SpellsName scope.declared

-- ── The words of a text ──

name_named : (bytes : List ℕ) (reserved : Option Symbol) → SpellsName bytes → IsNamed (name_word bytes reserved)
name_named bytes (Some symbol) h = tt
name_named bytes None h = h

sign_named : (sign : Option Symbol) → IsNamed (sign_word sign)
sign_named (Some symbol) = tt
sign_named None = tt

word_named : (kind : Kind) (bytes : List ℕ) → Spells bytes kind → IsNamed (word_of kind bytes)
word_named (Number value) bytes h = tt
word_named Name bytes h = name_named bytes (found reserved_words bytes) h
word_named Sign bytes h = sign_named (found signs bytes)

words_named : (text : List ℕ) (tokens : List Token) → All (SpellsItsKind text) tokens → AllNamed (words text tokens)
words_named text [] h = tt
words_named text (one ∷ more) h =
    let first : IsNamed (word_of one.kind (lexeme text one)) = word_named one.kind (lexeme text one) (h 0 one (omega arith)) in
    (first, words_named text more (λ k d lt. h (suc k) d (omega arith)))

-- where all words are spelled so, those behind some of them are
behind_named : {pieces behind : List Piece} → EndsWith pieces behind → Spelled pieces → Spelled behind
behind_named {pieces} {behind} h spelled = rest h.front (subst Spelled h.parted spelled)
  where
    rest : (front : List Piece) → Spelled (front ++ behind) → Spelled behind
    rest [] k = k
    rest (token t ∷ front) k = rest front k.1
    rest (look l ∷ front) k = rest front k

-- ── What declares names: where all words are spelled so, its names are, and the words behind it ──

-- with one more name
variable_named : (others : ℕ) (names : List VariableName) (x : VariableName) → All SpellsName names → SpellsName x
    → All SpellsName (with_variable others names x)
variable_named others names x h spelled = by_known (is_among names x)
  where
    by_room : (room : Bool) → All SpellsName (if room then names ++ x ∷ [] else names)
    by_room true = All-push SpellsName names x h spelled
    by_room false = h

    by_known : (known : Bool) → All SpellsName (if known then names else if nat_lt (others + length names) most_variables then names ++ x ∷ [] else names)
    by_known true = h
    by_known false = by_room (nat_lt (others + length names) most_variables)

part_named : (functions : Bool) (c : Context) (scope : Scope) (levels : ℕ) (part : Part) (behind : List Piece) → Declared scope
    → Spelled (part_pieces functions levels part behind) → Declared (part_walked c scope part).scope × Spelled behind
part_named functions c scope levels part behind names h =
    (variable_named scope.others scope.declared part.declared.bytes names h.0, behind_named (behind_initialiser functions levels part.initialiser behind) h.1)

parts_named : (functions : Bool) (c : Context) (scope : Scope) (levels : ℕ) (parts : List Part) (behind : List Piece) → Declared scope
    → Spelled (parts_pieces functions levels parts behind) → Declared (parts_walked c scope parts).scope × Spelled behind
parts_named functions c scope levels [] behind names h = (names, h.1)
parts_named functions c scope levels (part ∷ more) behind names h =
    let this = part_named functions c scope levels part (parts_pieces functions levels more behind) names h.1 in
    parts_named functions c (part_walked c scope part).scope levels more behind this.0 this.1

start_named : (functions : Bool) (c : Context) (scope : Scope) (levels : ℕ) (start : Start) (behind : List Piece) → Declared scope
    → Spelled (start_pieces functions levels start behind) → Declared (start_walked c scope start).scope × Spelled behind
start_named functions c scope levels starts_with_nothing behind names h = (names, h.1)
start_named functions c scope levels (starts_with s) behind names h =
    (names, (behind_named (behind_simple levels s (token (leading S.Semicolon) ∷ behind)) h).1)
start_named functions c scope levels (declares d) behind names h = parts_named functions c scope levels (d.part ∷ d.more) behind names (tt, h.1)

mutual
  statement_named : (functions : Bool) (c : Context) (scope : Scope) (levels : ℕ) (s : Statement) (behind : List Piece) → Declared scope
      → Spelled (statement_pieces functions levels s behind) → Declared (statement_walked c scope s).scope × Spelled behind
  statement_named functions c scope levels (statement_at at kind) behind names h = kind_named functions c scope levels at kind behind names h

  kind_named : (functions : Bool) (c : Context) (scope : Scope) (levels at : ℕ) (kind : StatementKind) (behind : List Piece) → Declared scope
      → Spelled (statement_kind_pieces functions levels kind behind) → Declared (kind_walked c scope at kind).scope × Spelled behind
  kind_named functions c scope levels at (simple s) behind names h = (names, (behind_named (behind_simple levels s (token (sign S.Semicolon) ∷ behind)) h).1)
  kind_named functions c scope levels at (calls call) behind names h =
      (names, (behind_named (behind_call functions levels call (token (sign S.Semicolon) ∷ behind)) h).1)
  kind_named functions c scope levels at (gives x call) behind names h =
      (names, (behind_named (behind_call functions levels call (token (sign S.Semicolon) ∷ behind)) h.1.1).1)
  kind_named functions c scope levels at skip behind names h = (names, h.1)
  kind_named functions c scope levels at (braces all) behind names h =
      let this = items_named functions (deeper c) scope (levels + 1) all (token (sign S.CloseBrace) ∷ behind) names h.1 in
      (this.0, this.1.1)
  kind_named functions c scope levels at (conditional test part other) behind names h =
      let last = otherwise_pieces functions (levels + 1) other behind in
      let tested = behind_named (behind_test (levels + 1) test (statement_pieces functions (levels + 1) part last)) h.1 in
      let this = statement_named functions (deeper c) scope (levels + 1) part last names tested in
      otherwise_named functions (deeper c) (statement_walked (deeper c) scope part).scope (levels + 1) other behind this.0 this.1
  kind_named functions c scope levels at (while_loop test body) behind names h =
      statement_named functions (looping c) scope (levels + 1) body behind names (behind_named (behind_test (levels + 1) test (statement_pieces functions (levels + 1) body behind)) h.1)
  kind_named functions c scope levels at (do_loop body end test) behind names h =
      let last = token (sign S.Semicolon) ∷ behind in
      let this = statement_named functions (looping c) scope (levels + 1) body (look (is_at end) ∷ token (sign S.While) ∷ test_pieces (levels + 1) test last) names h.1 in
      (this.0, (behind_named (behind_test (levels + 1) test last) this.1.1).1)
  kind_named functions c scope levels at (for_loop start test step body) behind names h =
      let inner = statement_pieces functions (levels + 1) body behind in
      let last = token (sign S.Semicolon) ∷ finish_pieces (levels + 1) step inner in
      let before = (start_walked (deeper c) scope start).scope in
      let started = start_named functions (deeper c) scope (levels + 1) start (optional_pieces (levels + 1) test last) names h.1.1 in
      let tested = behind_named (behind_optional (levels + 1) test last) started.1 in
      statement_named functions (looping c) before (levels + 1) body behind started.0 (behind_named (behind_finish (levels + 1) step inner) tested.1)
  kind_named functions c scope levels at (return value) behind names h =
      (names, (behind_named (behind_optional levels value (token (sign S.Semicolon) ∷ behind)) h.1).1)
  kind_named functions c scope levels at break behind names h = (names, h.1.1)
  kind_named functions c scope levels at continue behind names h = (names, h.1.1)

  otherwise_named : (functions : Bool) (c : Context) (scope : Scope) (levels : ℕ) (other : Otherwise) (behind : List Piece) → Declared scope
      → Spelled (otherwise_pieces functions levels other behind) → Declared (otherwise_walked c scope other).scope × Spelled behind
  otherwise_named functions c scope levels without behind names h = (names, h)
  otherwise_named functions c scope levels (otherwise s) behind names h = statement_named functions (deeper c) scope (levels + 1) s behind names h.1

  items_named : (functions : Bool) (c : Context) (scope : Scope) (levels : ℕ) (all : Items) (behind : List Piece) → Declared scope → Spelled (items_pieces functions levels all behind)
      → Declared (items_walked c scope all).scope × Spelled behind
  items_named functions c scope levels none behind names h = (names, h)
  items_named functions c scope levels (declaration d more) behind names h =
      let this = parts_named functions c scope levels (d.part ∷ d.more) (items_pieces functions levels more behind) names (tt, h.1) in
      items_named functions c (declaration_walked c scope d).scope levels more behind this.0 this.1
  items_named functions c scope levels (statement s more) behind names h =
      let inner = around_statement c s more in
      let this = statement_named functions inner scope levels s (items_pieces functions levels more behind) names h in
      items_named functions (around_rest c s) (statement_walked inner scope s).scope levels more behind this.0 this.1

-- ── Functions ──

further_named : (scope : Scope) (more : List ParameterName) (behind : List Piece) → Declared scope → Spelled (further_parameters_pieces more behind)
    → Declared (behind_parameters scope more) × Spelled behind
further_named scope [] behind names h = (names, h.1)
further_named scope (x ∷ more) behind names h =
    further_named (declare scope x.bytes false) more behind (variable_named scope.others scope.declared x.bytes names h.1.1.0) h.1.1.1

parameters_named : (scope : Scope) (parameters : Parameters) (behind : List Piece) → Declared scope → Spelled (parameters_pieces parameters behind)
    → Declared (behind_parameters scope (parameters_of parameters)) × Spelled behind
parameters_named scope (nothing void) behind names h = (names, behind_named (behind_void void behind) h)
parameters_named scope (named_parameters x more) behind names h =
    further_named (declare scope x.bytes false) more behind (variable_named scope.others scope.declared x.bytes names h.1.0) h.1.1

-- with one more function
function_named : (known : Functions) (x : VariableName) (signature : Signature) → All SpellsName known.names → SpellsName x
    → All SpellsName (with_function known x signature).names
function_named known x signature h spelled = by_known (is_among known.names x)
  where
    by_known : (is : Bool) → All SpellsName (if is then known else record { names = known.names ++ x ∷ []; signatures = known.signatures ++ signature ∷ [] }).names
    by_known true = h
    by_known false = All-push SpellsName known.names x h spelled

functions_named : (functions : Bool) (tokens : List Token) (known : Functions) (others : ℕ) (all : List Function) (behind : List Piece) → All SpellsName known.names
    → Spelled (functions_pieces functions all behind)
    → All SpellsName (known_behind known others all).names × All (λ made. All SpellsName made.names) (functions_made tokens known others all) × Spelled behind
functions_named functions tokens known others [] behind names h = (names, All-nil (λ (made : Made). All SpellsName made.names), h)
functions_named functions tokens known others (f ∷ more) behind names h =
    let rest = functions_pieces functions more behind in
    let last = token (sign S.CloseBrace) ∷ look (is_at f.behind) ∷ rest in
    let body = token (opening S.OpenBrace 1) ∷ items_pieces functions 1 f.items last in
    let parameters = behind_named (behind_allowed functions (parameters_pieces f.parameters body)) h.1.1.1 in
    let entering = parameters_named (no_names others) f.parameters body (λ k d lt. absurd (omega arith)) parameters in
    let inside = items_named functions (at_top known (body_of f.valued)) (entered others f) 1 f.items last entering.0 entering.1.1 in
    let behind_it =
    functions_named functions tokens (functions_behind known others f) (others_behind known others f) more behind
    (function_named known f.name.bytes (signature others f) names h.1.0) inside.1.1 in (
      behind_it.0,
      All-cons (λ (made : Made). All SpellsName made.names) (function_made tokens known others f)
          (functions_made tokens (functions_behind known others f) (others_behind known others f) more) inside.0 behind_it.1,
      behind_it.2,
    )

-- ── Programs ──

record ProgramNamed (tokens : List Token) (p : Program) : Type 0 where
  pub functions : All SpellsName (known p).names
  pub variables : All (λ made. All SpellsName made.names) (functions_made tokens no_functions 0 p.functions)
  pub main : All SpellsName (names_of p)

program_named : (functions : Bool) (tokens : List Token) (p : Program) → Spelled (program_pieces functions p []) → ProgramNamed tokens p
program_named functions tokens p h =
    let close = token (sign S.CloseBrace) ∷ [] in
    let body = token (opening S.OpenBrace 1) ∷ items_pieces functions 1 p.items close in
    let main = token (sign S.Int) ∷ token (sign S.Main) ∷ main_end_pieces functions p.void p.items [] in
    let first = behind_named (behind_preludes p.preludes (functions_pieces functions p.functions main)) h in
    let all = functions_named functions tokens no_functions 0 p.functions main (λ k d lt. absurd (omega arith)) first in
    let inside = behind_named (behind_void p.void body) all.2.1.1.1 in
    record {
      functions = all.0;
      variables = all.1;
      main = (items_named functions (at_top (known p) Main) (no_names (variables_behind no_functions 0 p.functions)) 1 p.items close
          (λ k d lt. absurd (omega arith)) inside.1).0;
    }

text_named : TokensSpellTheirKinds → (functions : Bool) (text : List ℕ) (tokens : List Token) (tree : Program) → IsSyntaxOf functions text tree
    → ProgramNamed tokens tree
text_named spell functions text tokens tree is =
    let read : AllNamed (words text is.tokens) = words_named text is.tokens (spell text is.tokens is.lexed) in
    program_named functions tokens tree (subst AllNamed is.spelled.spelled read)

-- the names of a program are spelled as names
pub names_are_names : TokensSpellTheirKinds → NamesAreNames
names_are_names spell text names body h =
    subst (λ ns. All SpellsName ns) (sym h.stands.declares) (text_named spell false text [] h.tree h.spelled).main

-- so are those of a unit
own_variables : (funcs : List Func) → All (λ made. All SpellsName made.names) (map made_of funcs) → All (λ f. All SpellsName f.names) funcs
own_variables [] h = All-nil (λ (f : Func). All SpellsName f.names)
own_variables (f ∷ more) h =
    All-cons (λ (f : Func). All SpellsName f.names) f more (All-head (λ (made : Made). All SpellsName made.names) (made_of f) (map made_of more) h)
    (own_variables more (All-tail (λ (made : Made). All SpellsName made.names) (made_of f) (map made_of more) h))

pub unit_names_are_names : TokensSpellTheirKinds → NamesOfUnitsAreNames
unit_names_are_names spell text unit h =
    let all = text_named spell true text h.tokens h.tree h.spelled in
    record {
      functions = subst (λ ns. All SpellsName ns) (sym h.stands.knows) all.functions;
      variables = own_variables unit.funcs (subst (All (λ (made : Made). All SpellsName made.names)) (sym h.stands.functions) all.variables);
      main = subst (λ ns. All SpellsName ns) (sym h.stands.declares) all.main;
    }

-- none has a dot
name_byte : (byte : ℕ) → IsTrue (is_name_byte byte) → byte ≢ 46
unfolding is_name_byte is_letter is_digit
name_byte byte h same = true≢false (sym (subst (λ code. IsTrue (is_letter code || is_digit code)) same h))

dotless : (name : List ℕ) → All (λ byte. IsTrue (is_name_byte byte)) name → HasNoDot name
dotless [] h = tt
dotless (byte ∷ more) h =
    (name_byte byte (All-head (λ code. IsTrue (is_name_byte code)) byte more h), dotless more (All-tail (λ code. IsTrue (is_name_byte code)) byte more h))

pub dotless_names : TokensSpellTheirKinds → (text : List ℕ) (tokens : List Token) (tree : Program) → IsSyntaxOf true text tree
    → All HasNoDot (known tree).names × All HasNoDot (names_of tree)
dotless_names spell text tokens tree is =
    let all = text_named spell true text tokens tree is in (
      All-weaker SpellsName HasNoDot (λ name own. dotless name own.each) (known tree).names all.functions,
      All-weaker SpellsName HasNoDot (λ name own. dotless name own.each) (names_of tree) all.main,
    )

-- no two names of a program are equal
pub names_are_distinct : NamesAreDistinct
names_are_distinct text names body h =
    let distinct : AllPairs (λ name other. name ≢ other) (names_of h.tree) =
    items_keep (at_top (known h.tree) Main) (λ others all free. AllPairs (λ name other. name ≢ other) all) distinct_kept
    (no_names (variables_behind no_functions 0 h.tree.functions)) h.tree.items (λ i j d less within. absurd (omega arith))
    in
    subst (λ all. AllPairs (λ name other. name ≢ other) all) (sym h.stands.declares) distinct
