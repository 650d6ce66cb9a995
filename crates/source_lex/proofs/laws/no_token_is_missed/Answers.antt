use Rattle.source_lex.proofs.SpellingLemmas.{nothing_is_spelled}
use Rattle.source_lex.proofs.laws.no_token_is_missed.Goals as goal

pub returns : goal.returns
returns c = λ text i end kind n forward within s. nothing_is_spelled text i end kind n forward within s
