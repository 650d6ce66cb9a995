use Rattle.std.proofs.Common.{IfSome}
use Rattle.linear_solve.specs.Choices.{IsAmong}
use Rattle.linear_solve.proofs.order.next_exact_place.Given as goal

abbrev pub invariant-loop-place : goal.invariant-loop-place
invariant-loop-place l = IfSome l.best (λ choice. IsAmong l.rows choice)
