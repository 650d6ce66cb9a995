use Rattle.line_text.proofs.Lines.{line_cut}
use Rattle.line_text.proofs.laws.a_line_spells_at_most_one_claim.Goals as goal

pub returns : goal.returns
returns c = line_cut
