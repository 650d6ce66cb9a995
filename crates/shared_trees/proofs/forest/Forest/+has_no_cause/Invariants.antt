use Rattle.shared_trees.proofs.forest.Forest.+has_no_cause.Given as goal

abbrev pub decreases-has_no_cause : goal.decreases-has_no_cause
decreases-has_no_cause g l = l.tree
