use Rattle.exact_families.proofs.Shutting.{shut_keeps}
use Rattle.exact_families.proofs.laws.shut_families_are_kept.Goals as goal

pub returns : goal.returns
returns c = shut_keeps
