use Rattle.std.proofs.lemmas.List.Elements.{All-weaker}
use Rattle.source_lex.specs.Lexemes.{StandsIn}
use Rattle.source_lex.specs.Spellings.{IsLongest}
use Rattle.source_lex.proofs.SpanLemmas.{tokens_stand}
use Rattle.source_lex.proofs.SpellingLemmas.{token_is_longest}
use Rattle.source_lex.proofs.laws.tokens_are_longest.Goals as goal

pub returns : goal.returns
returns c = λ text tokens h.
    All-weaker (StandsIn text) (IsLongest text) (λ t at. token_is_longest text t.start t.end t.kind at) tokens (tokens_stand text 0 tokens h)
