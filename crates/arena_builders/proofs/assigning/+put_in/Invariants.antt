use Rattle.arena_builders.proofs.assigning.+put_in.Given as goal

abbrev pub decreases-put_in : goal.decreases-put_in
decreases-put_in g l = l.tree.place
