use Rattle.source_lex.proofs.SpanLemmas.{tokens_stand}
use Rattle.source_lex.proofs.laws.tokens_stand_in_text.Goals as goal

pub returns : goal.returns
returns c = λ text tokens h. tokens_stand text 0 tokens h
