use Rattle.std.proofs.Common.{◌<◌, length}
use Rattle.tree_cases.proofs.arenas.push_doubled.Given as goal

abbrev pub invariant-loop : goal.invariant-loop
invariant-loop l = l.tree.place < length l.arena
