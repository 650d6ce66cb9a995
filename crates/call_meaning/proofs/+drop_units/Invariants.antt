use Rattle.std.proofs.Common.{◌≤◌}
use Rattle.call_meaning.specs.declared.statement.UnitBlock.{size-UnitBlock}
use Rattle.call_meaning.proofs.+drop_units.Given as goal

-- the list that is left to drop is no deeper than the list that came
abbrev pub invariant-statement::UnitBlock::drop-loop-self :
    goal.invariant-statement::UnitBlock::drop-loop-self
invariant-statement::UnitBlock::drop-loop-self l = size-UnitBlock l.self ≤ size-UnitBlock l.initial.self
