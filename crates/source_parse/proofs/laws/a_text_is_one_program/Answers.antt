use Rattle.source_parse.proofs.Parsed.{one_program}
use Rattle.source_parse.proofs.laws.a_text_is_one_program.Goals as goal

pub returns : goal.returns
returns c = one_program c.trees_are_unique.ensures
