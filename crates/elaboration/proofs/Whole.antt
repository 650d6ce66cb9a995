-- From the functions and the items of a program to the program.
use Rattle.std.proofs.Common.{◌≡◌, ◌≢◌, ℕ, ◌+◌, ◌≤◌, Bool, false, true, List, [], ◌∷◌, ◌++◌, None, Option, length, map, AllPairs, refl, ap, sym, ◌∙◌, subst, arith}
use Rattle.std.proofs.lemmas.Bool.{false≢true, true≢false}
use Rattle.std.proofs.lemmas.List.{append-nil, append_assoc}
use Rattle.source_lex.specs.declared.token.Token.{Token}
use Rattle.step_meaning.specs.declared.statement.Block.{Block}
use Rattle.step_meaning.specs.Syntax.{Statements, statements}
use Rattle.step_meaning.specs.Valid.{IsBody, IsInside, IsValid}
use Rattle.call_meaning.specs.Units.{of_list}
use Rattle.concrete_syntax.specs.Trees.{Function, Program}
use Rattle.elaboration.specs.declared.context.Body.TheVariants.{Main}
use Rattle.typed_expressions.specs.declared.fault.Fault.{Fault}
use Rattle.elaboration.specs.declared.function.Whole.{Whole}
use Rattle.typed_expressions.specs.declared.walk.Walk.{Walk}
use Rattle.elaboration.specs.Contexts.{Context, at_top, body_of}
use Rattle.elaboration.specs.Functions.{Functions, no_functions}
use Rattle.typed_expressions.specs.Scopes.{Scope, Name, no_names}
use Rattle.typed_expressions.specs.Faults.{earliest}
use Rattle.elaboration.specs.Statements.{Walked, items_walked}
use Rattle.elaboration.specs.Guards.{items_return}
use Rattle.elaboration.specs.Elaborates.{made_of, parameters_of, parameters_faults, entered, function_walked, missing_faults, twice_faults, function_made, functions_made, function_faults, functions_faults, functions_behind, others_behind, known_behind, variables_behind, known, walked, faults_of, names_of, plain_body, StandsFor}
use Rattle.elaboration.specs.Walking.{HasGone}
use Rattle.typed_expressions.proofs.Firsts.{earliest_more}
use Rattle.elaboration.proofs.Declared.{distinct_kept, items_keep}
use Rattle.elaboration.proofs.Behind.{few_in, few_first, variables_few, known_table, has_known}
use Rattle.elaboration.proofs.CallFree.{plain_sorted, plain_inside}
use Rattle.typed_expressions.proofs.Valid.{IsSound, both_none}
use Rattle.elaboration.proofs.Bodies.{items_valid}
use Rattle.elaboration.proofs.Jumps.{items_inside}

-- ── Functions ──

-- the functions that are left find and make, behind what was found and made, what all of them find and make
pub record AreLeft (tokens : List Token) (now : Whole) (left : List Function) (p : Program) : Type 0 where
  pub reads : now.tokens.now ≡ tokens
  pub few : now.others ≤ 15
  pub knows : known_behind now.functions now.others left ≡ known p
  pub counts : variables_behind now.functions now.others left ≡ variables_behind no_functions 0 p.functions
  pub finds : earliest now.least (functions_faults now.functions now.others left) ≡ earliest None (functions_faults no_functions 0 p.functions)
  pub makes : map made_of now.funcs.items ++ functions_made tokens now.functions now.others left ≡ functions_made tokens no_functions 0 p.functions

-- one function more
pub record HasTaken (old new : Whole) (f : Function) : Type 0 where
  pub reads : new.tokens.now ≡ old.tokens.now
  pub few : new.others ≤ 15
  pub knows : new.functions ≡ functions_behind old.functions old.others f
  pub counts : new.others ≡ others_behind old.functions old.others f
  pub finds : new.least ≡ earliest old.least (function_faults old.functions old.others f)
  pub makes : map made_of new.funcs.items ≡ map made_of old.funcs.items ++ function_made old.tokens.now old.functions old.others f ∷ []

pub taken_on : (tokens : List Token) (now next : Whole) (f : Function) (more : List Function) (p : Program) → AreLeft tokens now (f ∷ more) p
    → HasTaken now next f → AreLeft tokens next more p
taken_on tokens now next f more p left taken =
    let behind = functions_behind now.functions now.others f in
    let others = others_behind now.functions now.others f in
    rw (taken.knows, taken.counts) record {
      reads = taken.reads ∙ left.reads;
      few = subst (λ n. n ≤ 15) taken.counts taken.few;
      knows = left.knows;
      counts = left.counts;
      finds =
          ap (λ least. earliest least (functions_faults behind others more)) taken.finds
          ∙ sym (earliest_more now.least (function_faults now.functions now.others f) (functions_faults behind others more)) ∙ left.finds;
      makes =
          ap (λ made. made ++ functions_made tokens behind others more)
          (taken.makes ∙ ap (λ t. map made_of now.funcs.items ++ function_made t now.functions now.others f ∷ []) left.reads)
          ∙ append_assoc (map made_of now.funcs.items) (function_made tokens now.functions now.others f ∷ []) (functions_made tokens behind others more)
          ∙ left.makes;
    }

-- before the first function all are left
pub left_first : (tokens : List Token) (first : Whole) (fs : List Function) (p : Program) → first.tokens.now ≡ tokens → first.functions ≡ no_functions
    → first.funcs.items ≡ [] → first.others ≡ 0 → first.least ≡ None → fs ≡ p.functions → AreLeft tokens first fs p
left_first tokens first fs p reads none fresh zero_is clean are =
    rw (none, zero_is, clean, are) record {
      reads = reads;
      few = omega arith;
      knows = refl;
      counts = refl;
      finds = refl;
      makes = ap (λ l. map made_of l ++ functions_made tokens no_functions 0 p.functions) fresh;
    }

-- what the faults of one function are made of
pub function_found : (functions : Functions) (others : ℕ) (tree : Function) (before named entering gone last : Option Fault) (ended : Bool) (w : Walked)
    → w ≡ function_walked functions others tree → named ≡ earliest before (twice_faults functions tree.name)
    → entering ≡ earliest named (parameters_faults (no_names others) (parameters_of tree.parameters)) → gone ≡ earliest entering w.faults
    → last ≡ earliest gone (missing_faults tree.valued ended tree.behind) → ended ≡ items_return tree.items
    → last ≡ earliest before (function_faults functions others tree)
function_found functions others tree before named entering gone last ended w is name parameters body end ended_is =
    let own = function_walked functions others tree in
    let twice = twice_faults functions tree.name in
    let entered_faults = parameters_faults (no_names others) (parameters_of tree.parameters) in
    let missing = missing_faults tree.valued (items_return tree.items) tree.behind in
    end
    ∙ ap (λ b. earliest gone (missing_faults tree.valued b tree.behind)) ended_is
    ∙ ap (λ l. earliest l missing) (body ∙ ap (λ (v : Walked). earliest entering v.faults) is)
    ∙ sym (earliest_more entering own.faults missing)
    ∙ ap (λ l. earliest l (own.faults ++ missing)) parameters
    ∙ sym (earliest_more named entered_faults (own.faults ++ missing))
    ∙ ap (λ l. earliest l (entered_faults ++ (own.faults ++ missing))) name
    ∙ sym (earliest_more before twice (entered_faults ++ (own.faults ++ missing)))

-- a walk over a function
pub function_is : (functions : Functions) (others : ℕ) (tree : Function) (c : Context) (scope : Scope) → c ≡ at_top functions (body_of tree.valued)
    → scope ≡ entered others tree → items_walked c scope tree.items ≡ function_walked functions others tree
function_is functions others tree c scope around fresh =
    ap (λ d. items_walked d scope tree.items) around ∙ ap (λ s. items_walked (at_top functions (body_of tree.valued)) s tree.items) fresh

-- ── `main` ──

-- behind all functions
pub record IsBehind (tokens : List Token) (now : Whole) (p : Program) : Type 0 where
  pub knows : now.functions ≡ known p
  pub counts : now.others ≡ variables_behind no_functions 0 p.functions
  pub finds : now.least ≡ earliest None (functions_faults no_functions 0 p.functions)
  pub makes : map made_of now.funcs.items ≡ functions_made tokens no_functions 0 p.functions

pub none_left : (tokens : List Token) (now : Whole) (left : List Function) (p : Program) → left ≡ [] → AreLeft tokens now left p → IsBehind tokens now p
none_left tokens now left p none are =
    let there : AreLeft tokens now [] p = subst (λ l. AreLeft tokens now l p) none are in
    record { knows = there.knows; counts = there.counts; finds = there.finds; makes = sym (append-nil (map made_of now.funcs.items)) ∙ there.makes }

-- a walk over `main`, behind all functions
pub walk_is : (p : Program) (c : Context) (scope : Scope) (functions : Functions) (others : ℕ) → c ≡ at_top functions Main → scope ≡ no_names others
    → functions ≡ known p → others ≡ variables_behind no_functions 0 p.functions → items_walked c scope p.items ≡ walked p
walk_is p c scope functions others around fresh knows counts =
    ap (λ d. items_walked d scope p.items) (around ∙ ap (λ f. at_top f Main) knows)
    ∙ ap (λ s. items_walked (at_top (known p) Main) s p.items) (fresh ∙ ap no_names counts)

-- it finds all faults
pub all_found : (p : Program) (before : Option Fault) (first last : Walk) (w : Walked) → HasGone first last w → w ≡ walked p → first.least ≡ before
    → before ≡ earliest None (functions_faults no_functions 0 p.functions) → last.least ≡ earliest None (faults_of p)
all_found p before first last w gone is so_far found =
    gone.2 ∙ ap (λ least. earliest least w.faults) (so_far ∙ found)
    ∙ ap (λ (v : Walked). earliest (earliest None (functions_faults no_functions 0 p.functions)) v.faults) is
    ∙ sym (earliest_more None (functions_faults no_functions 0 p.functions) (walked p).faults)

-- ── Programs without functions ──

pub nothing_sound : (others : ℕ) → IsSound (no_names others)
nothing_sound others x seen = absurd (false≢true seen)

no_faults : (p : Program) → faults_of p ≡ [] → (walked p).faults ≡ []
no_faults p clean = (both_none (functions_faults no_functions 0 p.functions) (walked p).faults clean).1

pub all_few : (p : Program) → variables_behind no_functions 0 p.functions + length (names_of p) ≤ 15
all_few p =
    let others = variables_behind no_functions 0 p.functions in
    few_in (at_top (known p) Main) others (no_names others) p.items (few_first others (variables_few no_functions 0 (omega arith) p.functions))

pub names_are_few : (p : Program) (names : List Name) (body : Statements) → StandsFor p names body → length names ≤ 15
names_are_few p names body is = let few = all_few p in subst (λ (xs : List Name). length xs ≤ 15) (sym is.declares) (omega (arith, few))

-- a body that a tree stands for is over its names, each operand of its sort
pub body_is_valid : (p : Program) (names : List Name) (body : Statements) → StandsFor p names body → IsBody (length names) body
body_is_valid p names body is =
    let others = variables_behind no_functions 0 p.functions in
    let vars = length (names_of p) in
    let sorted = items_valid (at_top (known p) Main) vars (no_names others) (nothing_sound others) p.items (omega arith) (no_faults p is.faultless) in
    subst (λ b. IsBody (length names) b) (sym is.means)
    (subst (λ (xs : List Name). IsBody (length xs) (plain_body p)) (sym is.declares) (plain_sorted vars (of_list (walked p).body) sorted))

-- each jump of it stands inside the body of a loop
pub jumps_are_inside : (p : Program) (names : List Name) (body : Statements) → StandsFor p names body → IsInside false body
jumps_are_inside p names body is =
    let functions = known p in
    let others = variables_behind no_functions 0 p.functions in
    let table = known_table functions in
    let k = length functions.names in
    let inside = items_inside table k true (at_top functions Main) (λ e. absurd (true≢false e)) (has_known functions) (no_names others) p.items (no_faults p is.faultless) in
    subst (IsInside false) (sym is.means) (plain_inside table k true false (of_list (walked p).body) inside)

-- no two of its names are equal
pub names_are_apart : (p : Program) → AllPairs (λ a b. a ≢ b) (names_of p)
names_are_apart p =
    items_keep (at_top (known p) Main) _ distinct_kept (no_names (variables_behind no_functions 0 p.functions)) p.items
    (λ i j d lt within. absurd (omega arith))

-- a program that a tree stands for is valid
pub valid : (p : Program) (names : List Name) (block : Block) → StandsFor p names (statements block) → IsValid names block
valid p names block is =
    record {
      few = names_are_few p names (statements block) is;
      distinct = subst (λ xs. AllPairs (λ a b. a ≢ b) xs) (sym is.declares) (names_are_apart p);
      well_sorted = body_is_valid p names (statements block) is;
      inside = jumps_are_inside p names (statements block) is;
    }
