use Rattle.source_lex.proofs.SpanLemmas.{tokens_within, tokens_in_order}
use Rattle.source_lex.proofs.laws.tokens_are_in_order.Goals as goal

pub returns : goal.returns
returns c = λ text tokens h. (tokens_in_order text 0 tokens h, tokens_within text 0 tokens h)
