use Rattle.source_parse.proofs.Named.{names_are_names}
use Rattle.source_parse.proofs.laws.names_are_spelled_as_names.Goals as goal

pub returns : goal.returns
returns c = names_are_names c.tokens_spell_their_kinds.ensures
