use Rattle.source_parse.proofs.Parsed.{one_unit}
use Rattle.source_parse.proofs.laws.a_text_is_one_unit.Goals as goal

pub returns : goal.returns
returns c = one_unit c.trees_are_unique.ensures c.tokens_are_unique.ensures
