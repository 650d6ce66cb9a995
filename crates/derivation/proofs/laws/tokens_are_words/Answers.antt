use Rattle.derivation.proofs.Known as known
use Rattle.derivation.proofs.laws.tokens_are_words.Goals as goal

pub returns : goal.returns
returns c = known.tokens_are_words c.tokens_spell_their_kinds.ensures
