use Rattle.arena_builders.proofs.joining.+graft_in.Given as goal

abbrev pub decreases-graft_in : goal.decreases-graft_in
decreases-graft_in g l = l.first.place
