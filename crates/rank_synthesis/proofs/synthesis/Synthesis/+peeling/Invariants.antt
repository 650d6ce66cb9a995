use Rattle.std.proofs.Common.{◌+◌, ◌*◌}
use Rattle.rank_synthesis.proofs.synthesis.Synthesis.+peeling.Given as goal

-- the parts that are left, and which of the three calls it is
abbrev pub decreases-list : goal.decreases-list
decreases-list l = l.parts * 3 + 2

abbrev pub decreases-peeled : goal.decreases-peeled
decreases-peeled l = l.parts * 3 + 1

abbrev pub decreases-parted_anew : goal.decreases-parted_anew
decreases-parted_anew l = l.parts * 3 + 3
