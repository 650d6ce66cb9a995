use Rattle.typed_expressions.proofs.Ladder.{attach_ladder, attach_first, attach_further}
use Rattle.typed_expressions.proofs.laws.operators_group_by_the_ladder.Goals as goal

pub returns-clause-ladder : goal.returns-clause-ladder
returns-clause-ladder c = attach_ladder

pub returns-clause-first : goal.returns-clause-first
returns-clause-first c = attach_first

pub returns-clause-further : goal.returns-clause-further
returns-clause-further c = attach_further
