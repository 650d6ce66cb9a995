use Rattle.std.proofs.Common.{◌≤◌}
use Rattle.concrete_syntax.specs.declared.statement.Items.{size-Items}
use Rattle.concrete_syntax.proofs.+drop_statements.Given as goal

-- the items that are left to drop are no deeper than the items that came
abbrev pub invariant-statement::Items::drop-loop-self : goal.invariant-statement::Items::drop-loop-self
invariant-statement::Items::drop-loop-self l = size-Items l.self ≤ size-Items l.initial.self
