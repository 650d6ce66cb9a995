-- What the walk of the elaborator does: it knows the names so far and the first fault so far, and adds statements behind those so far.
use Rattle.std.specs.Prelude.{◌≡◌, ℕ, false, List, [], ◌∷◌, ◌++◌, None}
use Rattle.concrete_syntax.specs.Trees.{Expression, Name, Statement, Items}
use Rattle.step_meaning.specs.declared.expression.Expr.{Expr}
use Rattle.step_meaning.specs.Syntax.{expression}
use Rattle.call_meaning.specs.declared.statement.UnitBlock.{UnitBlock}
use Rattle.call_meaning.specs.declared.statement.UnitStmt.{UnitStmt}
use Rattle.call_meaning.specs.Units.{of_list, while_loop}
use Rattle.call_meaning.specs.Tables.{parts, commands}
use Rattle.call_meaning.specs.Offsets.{offsets, all_offsets, levels, all_levels}
use Rattle.elaboration.specs.declared.context.Context as code
use Rattle.typed_expressions.specs.declared.walk.Walk.{Walk}
use Rattle.elaboration.specs.Contexts.{Context, deeper}
use Rattle.typed_expressions.specs.Faults.{earliest}
use Rattle.elaboration.specs.Elaborates.{behind_parameters, parameters_faults}
use Rattle.typed_expressions.specs.Expressions.{as_test, expression_typed, expression_faults}
use Rattle.typed_expressions.specs.Scopes.{Scope, declare}
use Rattle.elaboration.specs.Statements.{Walked, chosen, name_faults, statement_walked, items_walked}
use Rattle.typed_expressions.specs.Offsets.{offset_in, offsets_in}

-- what a `Context` of the code is
abbrev pub context_of : code.Context → Context
context_of c = record { functions = c.functions.now; body = c.body; in_loop = c.in_loop; last = c.last; level = c.level }

-- an `if` at this token that guards these items, which stand in the place of its `else`
abbrev pub guard_walked : Context → Scope → ℕ → Expression → Statement → Items → Walked
guard_walked c scope at test part more =
    let first = statement_walked (deeper c) scope part in
    chosen at (expression_faults scope test) (as_test (expression_typed scope test)) first (items_walked (deeper c) first.scope more)

-- the names are those behind a parameter, or behind parameters, and behind the faults so far come theirs
abbrev pub HasDeclared : Walk → Walk → Name → Type 0
HasDeclared old new x =
    (new.tokens.now ≡ old.tokens.now) × (new.scope ≡ declare old.scope x.bytes false) × (new.least ≡ earliest old.least (name_faults old.scope x None))

abbrev pub HaveBeenDeclared : Walk → Walk → List Name → Type 0
HaveBeenDeclared old new xs =
    (new.tokens.now ≡ old.tokens.now) × (new.scope ≡ behind_parameters old.scope xs) × (new.least ≡ earliest old.least (parameters_faults old.scope xs))

-- the names are those behind the tree, and behind the faults so far come its faults
abbrev pub HasGone : Walk → Walk → Walked → Type 0
HasGone old new w = (new.tokens.now ≡ old.tokens.now) × (new.scope ≡ w.scope) × (new.least ≡ earliest old.least w.faults)

-- behind the statements so far come those of the tree
abbrev pub HasAdded : Walk → List UnitStmt → List UnitStmt → Walked → Type 0
HasAdded walk old new w =
    (parts new ≡ parts old ++ w.body)
    × (all_offsets new ≡ all_offsets old ++ offsets_in walk.tokens.now w.tokens)
    × (all_levels new ≡ all_levels old ++ w.levels)

-- the block is of the statements of the tree alone
abbrev pub IsMade : Walk → UnitBlock → Walked → Type 0
IsMade walk block w = (commands block ≡ of_list w.body) × (offsets block ≡ offsets_in walk.tokens.now w.tokens) × (levels block ≡ w.levels)

-- behind the statements so far comes a loop at this token with this test and this step, whose body is that of the tree
abbrev pub HasLooped : Walk → List UnitStmt → List UnitStmt → ℕ → Expr → UnitBlock → Walked → Type 0
HasLooped walk old new at test step w =
    (parts new ≡ parts old ++ while_loop (expression test) (of_list w.body) (commands step) ∷ [])
    × (all_offsets new ≡ all_offsets old ++ offset_in walk.tokens.now at ∷ (offsets_in walk.tokens.now w.tokens ++ offsets step))
    × (all_levels new ≡ all_levels old ++ (w.levels ++ levels step))
