use Rattle.claim_line.proofs.Telling.{one_claim}
use Rattle.claim_line.proofs.laws.a_line_tells_at_most_one_claim.Goals as goal

pub returns : goal.returns
returns c = one_claim
