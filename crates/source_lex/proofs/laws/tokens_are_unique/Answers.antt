use Rattle.source_lex.proofs.Readings.{tokens_unique}
use Rattle.source_lex.proofs.laws.tokens_are_unique.Goals as goal

pub returns : goal.returns
returns c = λ text tokens others h k. tokens_unique text 0 tokens others h k
