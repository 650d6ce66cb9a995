use Rattle.std.proofs.Common.{◌-◌, ◌*◌, ◌+◌, length}
use Rattle.tree_widening.proofs.against.+comparing.Given as goal

-- the parts that are left, and the constraints before the next one
abbrev pub decreases-exceeds_from : goal.decreases-exceeds_from
decreases-exceeds_from g l = (g.R.Rank.PARTS - l.number) * 4

abbrev pub decreases-exceeds_behind : goal.decreases-exceeds_behind
decreases-exceeds_behind g l = (g.R.Rank.PARTS - l.number - 1) * 4 + length l.same.now + 1
