use Rattle.line_text.proofs.Lines.{functions_told, rows_told}
use Rattle.line_text.proofs.laws.texts_tell_their_functions.Goals as goal

pub returns-clause-functions : goal.returns-clause-functions
returns-clause-functions c = functions_told

pub returns-clause-rows : goal.returns-clause-rows
returns-clause-rows c = rows_told
