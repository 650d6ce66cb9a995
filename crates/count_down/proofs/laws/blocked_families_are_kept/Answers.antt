use Rattle.count_down.proofs.Blocked.{blocked_keeps, blocked_supports}
use Rattle.count_down.proofs.laws.blocked_families_are_kept.Goals as goal

pub returns : goal.returns
returns c = record { kept = blocked_keeps; supported = blocked_supports }
