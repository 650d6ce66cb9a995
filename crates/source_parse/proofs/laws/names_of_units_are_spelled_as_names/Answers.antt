use Rattle.source_parse.proofs.Named.{unit_names_are_names}
use Rattle.source_parse.proofs.laws.names_of_units_are_spelled_as_names.Goals as goal

pub returns : goal.returns
returns c = unit_names_are_names c.tokens_spell_their_kinds.ensures
