use Rattle.std.proofs.Common.{◌≡◌, ℕ, None, length, slice_index_or}
use Rattle.tree_check.proofs.rounds.untold.Given as goal

abbrev pub invariant-loop : goal.invariant-loop
invariant-loop l = (length l.told.items ≡ l.counter) × ((label : ℕ) → slice_index_or l.told.items label None ≡ None)
