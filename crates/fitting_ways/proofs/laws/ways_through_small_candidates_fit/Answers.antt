use Rattle.fitting_ways.proofs.Candidates.{candidate_fits}
use Rattle.fitting_ways.proofs.laws.ways_through_small_candidates_fit.Goals as goal

pub returns : goal.returns
returns c = candidate_fits
