use Rattle.std.proofs.Common.{sym}
use Rattle.step_meaning.proofs.Front.{back, same_bound, same_end, same_steps}
use Rattle.step_meaning.proofs.laws.front_and_store_decide.Goals as goal

pub returns-clause-steps : goal.returns-clause-steps
returns-clause-steps c = λ here there fronts stores e. (same_steps here there fronts stores e, back here there fronts stores e)

pub returns-clause-ends : goal.returns-clause-ends
returns-clause-ends c = λ here there fronts stores. (same_end here there fronts stores, same_end there here (sym fronts) (sym stores))

pub returns-clause-within : goal.returns-clause-within
returns-clause-within c = same_bound
