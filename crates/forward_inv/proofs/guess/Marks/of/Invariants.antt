use Rattle.std.proofs.Common.{◌≡◌}
use Rattle.forward_inv.specs.Sets.{marked_below}
use Rattle.forward_inv.proofs.guess.Marks.of.Given as goal

abbrev pub invariant-loop-place : goal.invariant-loop-place
invariant-loop-place l = l.kept.items ≡ marked_below l.place l.rows l.self
