use Rattle.std.proofs.Common.{◌≡◌, length}
use Rattle.forward_inv.specs.Sets.{HoldEach, kept_at}
use Rattle.forward_inv.proofs.guess.sets_of.Given as goal

abbrev pub invariant-loop-label : goal.invariant-loop-label
invariant-loop-label g l =
    HoldEach g.D.NumDomain.has (kept_at g.D.NumDomain.told_rows l.guesses l.marks) l.sets.items × (length l.sets.items ≡ l.label)
