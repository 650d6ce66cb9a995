use Rattle.std.proofs.Common.{◌≡◌}
use Rattle.step_meaning.specs.Syntax.{expression}
use Rattle.int_fit.specs.Guarding.{are_small_variables}
use Rattle.int_fit.proofs.guarding.are_small.Given as goal

abbrev pub invariant-loop-place : goal.invariant-loop-place
invariant-loop-place l = expression l.test ≡ are_small_variables l.place
