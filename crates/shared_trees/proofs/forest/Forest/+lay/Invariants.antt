use Rattle.shared_trees.proofs.forest.Forest.+lay.Given as goal

abbrev pub decreases-lay : goal.decreases-lay
decreases-lay g l = l.second
