-- Which statements of a function always return, and which of them guard what follows.
use Rattle.std.specs.Prelude.{◌+◌, nat_lt, Bool, true, false, ◌&&◌, ◌||◌, if◌then◌else◌}
use Rattle.concrete_syntax.specs.Trees.{Statement, statement_at, StatementKind, braces, conditional, return, Otherwise, without, otherwise, Items, none, declaration, statement}
use Rattle.elaboration.specs.declared.context.Body.{Body}
use Rattle.elaboration.specs.declared.context.Body.TheVariants.{Main, Valued, Valueless}
use Rattle.elaboration.specs.Contexts.{Context}

abbrev pub is_ended : Items → Bool
is_ended none = true
is_ended (declaration d more) = false
is_ended (statement s more) = false

-- A statement always returns where it is a `return`, braces whose last item does, or an `if` both of whose parts do.
abbrev mutual
  pub returns : Statement → Bool
  returns (statement_at at kind) = kind_returns kind

  pub kind_returns : StatementKind → Bool
  kind_returns (return value) = true
  kind_returns (braces all) = items_return all
  kind_returns (conditional test part other) = returns part && otherwise_returns other
  kind_returns _ = false

  pub otherwise_returns : Otherwise → Bool
  otherwise_returns without = false
  otherwise_returns (otherwise s) = returns s

  pub items_return : Items → Bool
  items_return none = false
  items_return (declaration d more) = items_return more
  items_return (statement s more) = if is_ended more then returns s else items_return more

-- an `if` without `else` whose part always returns
abbrev pub stands_alone : Otherwise → Bool
stands_alone without = true
stands_alone (otherwise s) = false

abbrev pub may_guard : Statement → Bool
may_guard (statement_at at (conditional test part other)) = stands_alone other && returns part
may_guard _ = false

abbrev pub is_function : Body → Bool
is_function Main = false
is_function Valued = true
is_function Valueless = true

-- Such an `if` of a function guards what follows it, which then stands in the place of its `else`, a level deeper, where there is a level left for it.
abbrev pub guards : Context → Statement → Bool
guards c s = may_guard s && (is_function c.body && nat_lt c.level 64)

-- around a statement before these items, and around these items
abbrev pub around_statement : Context → Statement → Items → Context
around_statement c s more = record c { last = c.last && (is_ended more || guards c s) }

abbrev pub around_rest : Context → Statement → Context
around_rest c s = record c { level = if guards c s then c.level + 1 else c.level }
