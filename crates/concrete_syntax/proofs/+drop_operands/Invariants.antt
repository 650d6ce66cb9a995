use Rattle.std.proofs.Common.{◌≤◌}
use Rattle.concrete_syntax.specs.declared.expression.Tail.{size-Tail}
use Rattle.concrete_syntax.proofs.+drop_operands.Given as goal

-- the tail that is left to drop is no deeper than the tail that came
abbrev pub invariant-expression::Tail::drop-loop-self : goal.invariant-expression::Tail::drop-loop-self
invariant-expression::Tail::drop-loop-self l = size-Tail l.self ≤ size-Tail l.initial.self
