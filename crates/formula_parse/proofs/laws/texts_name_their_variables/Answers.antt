use Rattle.formula_parse.proofs.Variables.{texts_name_their_variables}
use Rattle.formula_parse.proofs.laws.texts_name_their_variables.Goals as goal

pub returns : goal.returns
returns c = texts_name_their_variables
