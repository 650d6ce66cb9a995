use Rattle.exact_families.proofs.Completed.{proposed_complete}
use Rattle.exact_families.proofs.laws.proposed_trees_are_complete.Goals as goal

pub returns : goal.returns
returns c = λ vars body few valid loopless told. proposed_complete body vars few valid loopless.fitting loopless.free told
