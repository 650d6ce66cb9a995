use Rattle.shared_trees.proofs.forest.Forest.+boxed.Given as goal

abbrev pub decreases-boxed : goal.decreases-boxed
decreases-boxed g l = l.tree
