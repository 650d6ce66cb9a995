-- Behind items all that could be used before them can be used still.
use Rattle.std.proofs.Common.{◌≡◌, ℕ, List, [], ◌∷◌, ◌++◌, length, take, refl, ap, sym, ◌∙◌}
use Rattle.std.proofs.lemmas.List.{append-nil, append_assoc}
use Rattle.std.proofs.Math.Seq.{take-append_seam}
use Rattle.concrete_syntax.specs.Trees.{Part, Statement, statement_at, simple, calls, gives, skip, braces, conditional, while_loop, do_loop, for_loop, return, break, continue, Otherwise, without, otherwise, Items, none, declaration, statement, Start, starts_with_nothing, starts_with, declares}
use Rattle.elaboration.specs.Contexts.{Context, deeper, looping}
use Rattle.elaboration.specs.Guards.{around_statement, around_rest}
use Rattle.typed_expressions.specs.Scopes.{Scope, Name, close}
use Rattle.elaboration.specs.Statements.{part_walked, parts_walked, declaration_walked, statement_walked, otherwise_walked, items_walked, start_walked}

-- a statement leaves what may be used as it is
mutual
  pub statement_visible : (c : Context) (scope : Scope) (s : Statement) → (statement_walked c scope s).scope.visible ≡ scope.visible
  statement_visible c scope (statement_at at (simple s)) = refl
  statement_visible c scope (statement_at at (calls call)) = refl
  statement_visible c scope (statement_at at (gives x call)) = refl
  statement_visible c scope (statement_at at skip) = refl
  statement_visible c scope (statement_at at (braces all)) = refl
  statement_visible c scope (statement_at at (conditional test part other)) =
      otherwise_visible (deeper c) (statement_walked (deeper c) scope part).scope other ∙ statement_visible (deeper c) scope part
  statement_visible c scope (statement_at at (while_loop test body)) = statement_visible (looping c) scope body
  statement_visible c scope (statement_at at (do_loop body end test)) = statement_visible (looping c) scope body
  statement_visible c scope (statement_at at (for_loop start test step body)) = refl
  statement_visible c scope (statement_at at (return value)) = refl
  statement_visible c scope (statement_at at break) = refl
  statement_visible c scope (statement_at at continue) = refl

  otherwise_visible : (c : Context) (scope : Scope) (other : Otherwise) → (otherwise_walked c scope other).scope.visible ≡ scope.visible
  otherwise_visible c scope without = refl
  otherwise_visible c scope (otherwise s) = statement_visible (deeper c) scope s

-- what could be used stays in front of what is declared
abbrev Extends : List Name → List Name → Type 0
Extends outer inner = (more : List Name) × (inner ≡ outer ++ more)

extends_same : (xs : List Name) → Extends xs xs
extends_same xs = ([], sym (append-nil xs))

extends_on : (xs ys zs : List Name) → Extends xs ys → Extends ys zs → Extends xs zs
extends_on xs ys zs (more, is) (further, then_is) = (more ++ further, then_is ∙ ap (λ t. t ++ further) is ∙ append_assoc xs more further)

parts_extend : (c : Context) (scope : Scope) (parts : List Part) → Extends scope.visible (parts_walked c scope parts).scope.visible
parts_extend c scope [] = extends_same scope.visible
parts_extend c scope (part ∷ more) =
    let behind = (part_walked c scope part).scope in
    extends_on scope.visible behind.visible (parts_walked c behind more).scope.visible (part.declared.bytes ∷ [], refl) (parts_extend c behind more)

items_extend : (c : Context) (scope : Scope) (all : Items) → Extends scope.visible (items_walked c scope all).scope.visible
items_extend c scope none = extends_same scope.visible
items_extend c scope (declaration d more) =
    extends_on scope.visible (declaration_walked c scope d).scope.visible (items_walked c (declaration_walked c scope d).scope more).scope.visible
    (parts_extend c scope (d.part ∷ d.more)) (items_extend c (declaration_walked c scope d).scope more)
items_extend c scope (statement s more) =
    let inner = around_statement c s more in
    let middle = (statement_walked inner scope s).scope in
    extends_on scope.visible middle.visible (items_walked (around_rest c s) middle more).scope.visible
    ([], statement_visible inner scope s ∙ sym (append-nil scope.visible)) (items_extend (around_rest c s) middle more)

start_extends : (c : Context) (scope : Scope) (start : Start) → Extends scope.visible (start_walked c scope start).scope.visible
start_extends c scope starts_with_nothing = extends_same scope.visible
start_extends c scope (starts_with s) = extends_same scope.visible
start_extends c scope (declares d) = parts_extend c scope (d.part ∷ d.more)

-- the first names are those that could be used before
first_names : (outer inner : List Name) → Extends outer inner → take (length outer) inner ≡ outer
first_names outer inner (more, is) = ap (take (length outer)) is ∙ take-append_seam outer more

pub items_kept : (c : Context) (scope : Scope) (all : Items) → take (length scope.visible) (items_walked c scope all).scope.visible ≡ scope.visible
items_kept c scope all = first_names scope.visible (items_walked c scope all).scope.visible (items_extend c scope all)

pub start_kept : (around c : Context) (scope : Scope) (start : Start) (body : Statement)
    → take (length scope.visible) (statement_walked c (start_walked around scope start).scope body).scope.visible ≡ scope.visible
start_kept around c scope start body =
    ap (take (length scope.visible)) (statement_visible c (start_walked around scope start).scope body)
    ∙ first_names scope.visible (start_walked around scope start).scope.visible (start_extends around scope start)

-- a scope whose later names were taken off is closed, where the first names are those that could be used before
pub closed : (outer inner new : Scope) (depth : ℕ) → depth ≡ length outer.visible → new ≡ record inner { visible = take depth inner.visible }
    → take (length outer.visible) inner.visible ≡ outer.visible → new ≡ close outer inner
closed outer inner new depth deep is kept =
    is ∙ ap (λ (names : List Name). record inner { visible = names }) (ap (λ n. take n inner.visible) deep ∙ kept)
