use Rattle.source_parse.proofs.Named.{names_are_distinct}
use Rattle.source_parse.proofs.laws.names_are_distinct.Goals as goal

pub returns : goal.returns
returns c = names_are_distinct
