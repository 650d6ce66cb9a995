use Rattle.std.proofs.Common.{◌≡◌}
use Rattle.advice.proofs.consulting.consult_one.Given as goal

abbrev pub invariant-loop-fact : goal.invariant-loop-fact
invariant-loop-fact g l = (goal.Adviser-dyn g l.adviser.now).asked_of l.adviser.now.1 ≡ (goal.Adviser-dyn g l.initial.adviser.now).asked_of l.initial.adviser.now.1
