use Rattle.std.proofs.Common.{◌≤◌, length}
use Rattle.advice.proofs.Asked.{AreAskedUpTo}
use Rattle.advice.proofs.consulting.consult.Given as goal

abbrev pub invariant-loop-number : goal.invariant-loop-number
invariant-loop-number g l =
    AreAskedUpTo (λ a. (goal.Adviser-dyn g (a.vtable, a.value)).asked_of a.value) l.number l.initial.advisers.items l.advisers.items
    × (length l.hints.items ≤ l.number)
