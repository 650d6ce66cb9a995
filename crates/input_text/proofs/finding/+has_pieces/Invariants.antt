use Rattle.input_text.proofs.finding.+has_pieces.Given as goal

abbrev pub decreases-has_pieces : goal.decreases-has_pieces
decreases-has_pieces l = l.count
