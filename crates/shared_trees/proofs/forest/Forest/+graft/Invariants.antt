use Rattle.shared_trees.proofs.forest.Forest.+graft.Given as goal

abbrev pub decreases-graft : goal.decreases-graft
decreases-graft g l = l.first
