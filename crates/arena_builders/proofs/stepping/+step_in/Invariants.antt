use Rattle.arena_builders.proofs.stepping.+step_in.Given as goal

abbrev pub decreases-step_in : goal.decreases-step_in
decreases-step_in g l = l.tree.place
