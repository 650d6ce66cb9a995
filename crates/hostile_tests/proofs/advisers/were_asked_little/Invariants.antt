use Rattle.std.proofs.Common.{◌≤◌, ◌^◌, All, take}
use Rattle.hostile_tests.proofs.advisers.were_asked_little.Given as goal

abbrev pub invariant-loop-adviser : goal.invariant-loop-adviser
invariant-loop-adviser g l = All (λ a. (goal.Adviser-dyn g (a.vtable, a.value)).asked_of a.value ≤ 2 ^ 32) (take l.adviser-index l.advisers)
