use Rattle.line_text.proofs.LineForms.{line_clean, line_opens}
use Rattle.line_text.proofs.laws.lines_have_their_own_form.Goals as goal

pub returns-clause-newline : goal.returns-clause-newline
returns-clause-newline c = line_clean

pub returns-clause-opening : goal.returns-clause-opening
returns-clause-opening c = line_opens
