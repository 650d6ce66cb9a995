-- A statement that guards what follows is an `if` with that as its second part.
use Rattle.std.proofs.Common.{◌≡◌, ℕ, ◌+◌, Bool, true, false, ◌&&◌, ◌||◌, if◌then◌else◌, [], ◌∷◌, ◌++◌, refl, ap, ◌∙◌, append-nil, append_assoc}
use Rattle.std.proofs.lemmas.Bool.{false≢true}
use Rattle.concrete_syntax.specs.Trees.{Expression, Statement, statement_at, StatementKind, conditional, Otherwise, without, otherwise, Items, statement}
use Rattle.elaboration.specs.Contexts.{Context, deeper}
use Rattle.elaboration.specs.Guards.{is_ended, guards, around_statement, around_rest}
use Rattle.elaboration.specs.Statements.{Walked, joined, followed, statement_walked, items_walked}
use Rattle.elaboration.specs.Walking.{guard_walked}
use Rattle.typed_expressions.specs.Expressions.{expression_faults}
use Rattle.typed_expressions.specs.Scopes.{Scope}

pub and_none : (a b : Bool) → a ≡ false → (a && b) ≡ false
and_none a b is = ap (λ c. c && b) is

and_true : (a : Bool) → (a && true) ≡ a
and_true true = refl
and_true false = refl

or_true : (a : Bool) → (a || true) ≡ true
or_true true = refl
or_true false = refl

-- a statement and items behind it, in these contexts, where it guards them or not
abbrev walked_in : Context → Context → Bool → Scope → Statement → Items → Walked
walked_in around behind guarded scope s more =
    let w = statement_walked around scope s in
    let rest = items_walked behind w.scope more in
    record (joined w rest) { body = followed guarded w.body rest.body }

pub guard_is : (c : Context) (scope : Scope) (at : ℕ) (test : Expression) (part : Statement) (more : Items)
    → guards c (statement_at at (conditional test part without)) ≡ true
    → items_walked c scope (statement (statement_at at (conditional test part without)) more) ≡ guard_walked c scope at test part more
guard_is c scope at test part more e =
    let s : Statement = statement_at at (conditional test part without) in
    let around : around_statement c s more ≡ c =
    ap (λ g. record c { last = c.last && (is_ended more || g) }) e ∙ ap (λ b. record c { last = c.last && b }) (or_true (is_ended more))
    ∙ ap (λ (b : Bool). record c { last = b }) (and_true c.last)
    in
    let behind : around_rest c s ≡ deeper c = ap (λ g. record c { level = if g then c.level + 1 else c.level }) e in
    let first = statement_walked (deeper c) scope part in
    let rest = items_walked (deeper c) first.scope more in
    let faults = expression_faults scope test in
    ap (λ d. walked_in d (around_rest c s) (guards c s) scope s more) around
    ∙ ap (λ d. walked_in c d (guards c s) scope s more) behind
    ∙ ap (λ g. walked_in c (deeper c) g scope s more) e
    ∙ ap (λ fs. record (guard_walked c scope at test part more) { faults = fs; tokens = (at ∷ (first.tokens ++ [])) ++ rest.tokens; levels = (first.levels ++ []) ++ rest.levels })
    (ap (λ l. (faults ++ l) ++ rest.faults) (append-nil first.faults) ∙ append_assoc faults first.faults rest.faults)
    ∙ ap (λ l. record (guard_walked c scope at test part more) { tokens = (at ∷ l) ++ rest.tokens; levels = (first.levels ++ []) ++ rest.levels }) (append-nil first.tokens)
    ∙ ap (λ l. record (guard_walked c scope at test part more) { levels = l ++ rest.levels }) (append-nil first.levels)

pub unguarded_is : (c : Context) (scope : Scope) (s : Statement) (more : Items) → guards c s ≡ false
    → items_walked c scope (statement s more)
    ≡ joined (statement_walked (around_statement c s more) scope s) (items_walked c (statement_walked (around_statement c s more) scope s).scope more)
unguarded_is c scope s more e =
    let d = around_statement c s more in
    let behind : around_rest c s ≡ c = ap (λ g. record c { level = if g then c.level + 1 else c.level }) e in
    ap (λ r. walked_in d r (guards c s) scope s more) behind ∙ ap (λ g. walked_in d c g scope s more) e

-- only an `if` without `else` guards
pub alone : (c : Context) (at : ℕ) (test : Expression) (part : Statement) (other : Otherwise) → guards c (statement_at at (conditional test part other)) ≡ true
    → other ≡ without
alone c at test part without e = refl
alone c at test part (otherwise s) e = absurd (false≢true e)

pub guard_found : (c : Context) (scope : Scope) (at : ℕ) (test : Expression) (part : Statement) (other : Otherwise) (more : Items)
    → guards c (statement_at at (conditional test part other)) ≡ true
    → items_walked c scope (statement (statement_at at (conditional test part other)) more) ≡ guard_walked c scope at test part more
guard_found c scope at test part without more e = guard_is c scope at test part more e
guard_found c scope at test part (otherwise s) more e = absurd (false≢true e)

abbrev pub is_conditional : StatementKind → Bool
is_conditional (conditional test part other) = true
is_conditional _ = false
