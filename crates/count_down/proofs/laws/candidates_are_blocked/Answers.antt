use Rattle.count_down.proofs.Settled.{candidate_blocked}
use Rattle.count_down.proofs.laws.candidates_are_blocked.Goals as goal

pub returns : goal.returns
returns c = candidate_blocked
