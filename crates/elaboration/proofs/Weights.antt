-- Weights of trees, as measures of a walk: each tree weighs more than its parts.
use Rattle.std.proofs.Common.{ℕ, ◌+◌}
use Rattle.concrete_syntax.specs.Trees.{Statement, statement_at, StatementKind, braces, conditional, while_loop, do_loop, for_loop, Otherwise, without, otherwise, Items, none, declaration, statement}

abbrev mutual
  pub statement_weight : Statement → ℕ
  statement_weight (statement_at at kind) = statement_kind_weight kind

  pub statement_kind_weight : StatementKind → ℕ
  statement_kind_weight (braces all) = 1 + items_weight all
  statement_kind_weight (conditional test part other) = 1 + statement_weight part + otherwise_weight other
  statement_kind_weight (while_loop test body) = 1 + statement_weight body
  statement_kind_weight (do_loop body end test) = 1 + statement_weight body
  statement_kind_weight (for_loop start test step body) = 1 + statement_weight body
  statement_kind_weight _ = 0

  pub otherwise_weight : Otherwise → ℕ
  otherwise_weight without = 0
  otherwise_weight (otherwise s) = 1 + statement_weight s

  pub items_weight : Items → ℕ
  items_weight none = 0
  items_weight (declaration d more) = items_weight more
  items_weight (statement s more) = 1 + statement_weight s + items_weight more
