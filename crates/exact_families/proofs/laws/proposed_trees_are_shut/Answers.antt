use Rattle.exact_families.proofs.Completed.{proposed_shut}
use Rattle.exact_families.proofs.laws.proposed_trees_are_shut.Goals as goal

pub returns : goal.returns
returns c = λ vars body few valid loopless told. proposed_shut body vars few valid loopless.fitting loopless.free told
