-- The greatest number of levels of nesting that are open in a piece of a body, where so many are open around it. A sign before an operand, a `(` and the
-- `(` of `__VERIFIER_nondet_int()` each open one, and so does the `(` before a test; `{`, `if`, `else`, `while`, `do` and `for` open one for as long as
-- their statement lasts; and what follows a statement that guards it stands a level deeper.
use Rattle.std.specs.Prelude.{ℕ, ◌+◌, nat_lt, max, ◌&&◌, if◌then◌else◌, List, [], ◌∷◌, Option, None, Some}
use Rattle.concrete_syntax.specs.Trees.{Operand, operand_at, OperandKind, call, signed, parentheses, Link, operation, division, Tail, ended, further, Expression, assigns, steps, Simple, acts, steps_before, Value, evaluates, answers, Part, Declaration, Start, starts_with_nothing, starts_with, declares, Statement, statement_at, StatementKind, simple, calls, gives, skip, braces, conditional, while_loop, do_loop, for_loop, return, break, continue, Otherwise, without, otherwise, Items, none, declaration, statement}
use Rattle.elaboration.specs.Guards.{may_guard}

abbrev mutual
  pub operand_levels : ℕ → Operand → ℕ
  operand_levels level (operand_at at kind) = operand_kind_levels level kind

  pub operand_kind_levels : ℕ → OperandKind → ℕ
  operand_kind_levels level call = level + 1
  operand_kind_levels level (signed prefix e) = operand_levels (level + 1) e
  operand_kind_levels level (parentheses e more) = max (operand_levels (level + 1) e) (tail_levels (level + 1) more)
  operand_kind_levels level _ = level

  pub link_levels : ℕ → Link → ℕ
  link_levels level (operation op e) = operand_levels level e
  link_levels level (division sign d) = level

  pub tail_levels : ℕ → Tail → ℕ
  tail_levels level ended = level
  tail_levels level (further link more) = max (link_levels level link) (tail_levels level more)

abbrev pub expression_levels : ℕ → Expression → ℕ
expression_levels level e = max (operand_levels level e.operand) (tail_levels level e.tail)

abbrev pub all_levels : ℕ → List Expression → ℕ
all_levels level [] = level
all_levels level (e ∷ more) = max (expression_levels level e) (all_levels level more)

abbrev pub optional_levels : ℕ → Option Expression → ℕ
optional_levels level (Some e) = expression_levels level e
optional_levels level None = level

abbrev pub simple_levels : ℕ → Simple → ℕ
simple_levels level (acts x (assigns assignment e)) = expression_levels level e
simple_levels level (acts x (steps step)) = level
simple_levels level (steps_before sign step x) = level

abbrev pub optional_simple_levels : ℕ → Option Simple → ℕ
optional_simple_levels level (Some s) = simple_levels level s
optional_simple_levels level None = level

abbrev pub initialiser_levels : ℕ → Option Value → ℕ
initialiser_levels level (Some (evaluates e)) = expression_levels level e
initialiser_levels level (Some (answers c)) = all_levels level c.arguments
initialiser_levels level None = level

abbrev pub parts_levels : ℕ → List Part → ℕ
parts_levels level [] = level
parts_levels level (part ∷ more) = max (initialiser_levels level part.initialiser) (parts_levels level more)

abbrev pub declaration_levels : ℕ → Declaration → ℕ
declaration_levels level d = parts_levels level (d.part ∷ d.more)

abbrev pub start_levels : ℕ → Start → ℕ
start_levels level starts_with_nothing = level
start_levels level (starts_with s) = simple_levels level s
start_levels level (declares d) = declaration_levels level d

-- around what follows a statement
abbrev pub rest_level : ℕ → Statement → ℕ
rest_level level s = if may_guard s && nat_lt level 64 then level + 1 else level

abbrev mutual
  pub statement_levels : ℕ → Statement → ℕ
  statement_levels level (statement_at at kind) = kind_levels level kind

  pub kind_levels : ℕ → StatementKind → ℕ
  kind_levels level (simple s) = simple_levels level s
  kind_levels level (calls c) = all_levels level c.arguments
  kind_levels level (gives x c) = all_levels level c.arguments
  kind_levels level skip = level
  kind_levels level (braces all) = items_levels (level + 1) all
  kind_levels level (conditional test part other) =
      max (expression_levels (level + 1 + 1) test) (max (statement_levels (level + 1) part) (otherwise_levels (level + 1) other))
  kind_levels level (while_loop test body) = max (expression_levels (level + 1 + 1) test) (statement_levels (level + 1) body)
  kind_levels level (do_loop body end test) = max (statement_levels (level + 1) body) (expression_levels (level + 1 + 1) test)
  kind_levels level (for_loop start test step body) =
      max (max (start_levels (level + 1) start) (optional_levels (level + 1) test))
      (max (optional_simple_levels (level + 1) step) (statement_levels (level + 1) body))
  kind_levels level (return value) = optional_levels level value
  kind_levels level break = level
  kind_levels level continue = level

  pub otherwise_levels : ℕ → Otherwise → ℕ
  otherwise_levels level without = level
  otherwise_levels level (otherwise s) = statement_levels (level + 1) s

  pub items_levels : ℕ → Items → ℕ
  items_levels level none = level
  items_levels level (declaration d more) = max (declaration_levels level d) (items_levels level more)
  items_levels level (statement s more) = max (statement_levels level s) (items_levels (rest_level level s) more)
