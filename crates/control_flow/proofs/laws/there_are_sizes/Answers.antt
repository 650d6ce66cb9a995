use Rattle.control_flow.proofs.Existing.{only_ones, sizes_in, there_are}
use Rattle.control_flow.proofs.laws.there_are_sizes.Goals as goal

pub returns : goal.returns
returns c = record { some = λ body. (sizes_in body, there_are body); only = only_ones }
