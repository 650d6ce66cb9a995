use Rattle.std.proofs.Common.{◌-◌, ◌*◌}
use Rattle.tree_unify.proofs.choosing.+asking.Given as goal

-- the parts that are left, and which of the three calls it is
abbrev pub decreases-ask_from : goal.decreases-ask_from
decreases-ask_from g l = (g.R.Rank.PARTS - l.number) * 3

abbrev pub decreases-ask_behind : goal.decreases-ask_behind
decreases-ask_behind g l = (g.R.Rank.PARTS - l.number) * 3 - 1

abbrev pub decreases-ask_next : goal.decreases-ask_next
decreases-ask_next g l = (g.R.Rank.PARTS - l.number) * 3 - 2
