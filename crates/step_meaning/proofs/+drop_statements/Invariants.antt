use Rattle.std.proofs.Common.{◌≤◌}
use Rattle.step_meaning.specs.declared.statement.Block.{size-Block}
use Rattle.step_meaning.proofs.+drop_statements.Given as goal

-- the list that is left to drop is no deeper than the list that came
abbrev pub invariant-statement::Block::drop-loop-self :
    goal.invariant-statement::Block::drop-loop-self
invariant-statement::Block::drop-loop-self l = size-Block l.self ≤ size-Block l.initial.self
