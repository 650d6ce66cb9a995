use Rattle.claim_line.proofs.Telling.{no_colon, no_line, no_newline}
use Rattle.claim_line.proofs.laws.claims_have_their_own_form.Goals as goal

pub returns-clause-newline : goal.returns-clause-newline
returns-clause-newline c = no_newline

pub returns-clause-apart : goal.returns-clause-apart
returns-clause-apart c = no_line

pub returns-clause-colon : goal.returns-clause-colon
returns-clause-colon c = no_colon
