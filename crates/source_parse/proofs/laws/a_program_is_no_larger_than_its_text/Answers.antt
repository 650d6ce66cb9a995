use Rattle.source_parse.proofs.Small.{program_size}
use Rattle.source_parse.proofs.laws.a_program_is_no_larger_than_its_text.Goals as goal

pub returns : goal.returns
returns c text names body h = program_size text names body c.tokens_are_in_order.ensures h
