use Rattle.command_words.proofs.PairRequests.{pairs_ask}
use Rattle.command_words.proofs.laws.pairs_are_read_as_they_stand.Goals as goal

pub returns : goal.returns
returns c = pairs_ask
