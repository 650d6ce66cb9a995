use Rattle.source_lex.proofs.Readings.{tokens_or_fault}
use Rattle.source_lex.proofs.laws.tokens_exclude_faults.Goals as goal

pub returns : goal.returns
returns c = λ text tokens fault h k. tokens_or_fault text 0 tokens fault h k
