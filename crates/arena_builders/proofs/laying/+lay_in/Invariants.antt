use Rattle.arena_builders.proofs.laying.+lay_in.Given as goal

abbrev pub decreases-lay_in : goal.decreases-lay_in
decreases-lay_in g l = l.second.place
