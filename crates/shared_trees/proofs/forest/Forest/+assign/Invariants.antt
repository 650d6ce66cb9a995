use Rattle.shared_trees.proofs.forest.Forest.+assign.Given as goal

abbrev pub decreases-assign : goal.decreases-assign
decreases-assign g l = l.tree
