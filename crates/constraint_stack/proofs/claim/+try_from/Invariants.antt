use Rattle.std.proofs.Common.{◌-◌}
use Rattle.constraint_stack.proofs.claim.+try_from.Given as goal

-- the parts that are left
abbrev pub decreases-try_from : goal.decreases-try_from
decreases-try_from g l = g.R.Rank.PARTS - l.number
