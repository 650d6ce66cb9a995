use Rattle.std.proofs.lemmas.List.Elements.{All-weaker}
use Rattle.source_lex.specs.Lexemes.{StandsIn}
use Rattle.source_lex.specs.Spellings.{SpellsItsKind}
use Rattle.source_lex.proofs.SpanLemmas.{tokens_stand}
use Rattle.source_lex.proofs.SpellingLemmas.{spells-token}
use Rattle.source_lex.proofs.laws.tokens_spell_their_kinds.Goals as goal

pub returns : goal.returns
returns c = λ text tokens h.
    All-weaker (StandsIn text) (SpellsItsKind text) (λ t at. spells-token text t.start t.end t.kind at) tokens (tokens_stand text 0 tokens h)
