use Rattle.arena_builders.proofs.boxes.+boxed.Given as goal

abbrev pub decreases-boxed : goal.decreases-boxed
decreases-boxed g l = l.tree.place
