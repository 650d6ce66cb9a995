use Rattle.demo_program.proofs.text.+push_turn.Given as goal

abbrev pub decreases-push_turn : goal.decreases-push_turn
decreases-push_turn l = l.left
