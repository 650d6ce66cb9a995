use Rattle.shared_trees.proofs.forest.Forest.+step.Given as goal

abbrev pub decreases-step : goal.decreases-step
decreases-step g l = l.tree
