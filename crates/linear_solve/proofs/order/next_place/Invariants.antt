use Rattle.std.proofs.Common.{◌≡◌, ◌<◌, ℕ, MatchOption, false}
use Rattle.linear_solve.specs.Systems.{occurs}
use Rattle.linear_solve.proofs.Choosing.{IsFewestBelow}
use Rattle.linear_solve.proofs.order.next_place.Given as goal

abbrev pub invariant-loop-place : goal.invariant-loop-place
invariant-loop-place l = MatchOption l.best ((place : ℕ) → place < l.place → occurs place l.rows ≡ false) (IsFewestBelow l.rows l.place)
