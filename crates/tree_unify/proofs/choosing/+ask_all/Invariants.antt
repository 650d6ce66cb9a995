use Rattle.std.proofs.Common.{length}
use Rattle.tree_unify.proofs.choosing.+ask_all.Given as goal

abbrev pub decreases-ask_all : goal.decreases-ask_all
decreases-ask_all g l = length l.kinds.now
