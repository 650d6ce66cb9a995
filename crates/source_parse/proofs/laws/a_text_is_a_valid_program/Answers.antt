use Rattle.elaboration.proofs.Whole.{names_are_few, body_is_valid, jumps_are_inside}
use Rattle.source_parse.proofs.laws.a_text_is_a_valid_program.Goals as goal

pub returns : goal.returns
returns c = λ text names body is. (
  names_are_few is.tree names body is.stands,
  body_is_valid is.tree names body is.stands,
  jumps_are_inside is.tree names body is.stands,
)
