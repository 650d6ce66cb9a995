use Rattle.loop_facts.proofs.falls.before.Goals as goal

pub affine_of-requires-clause-names : goal.affine_of-requires-clause-names
affine_of-requires-clause-names c = c.in-Assign.ensures.placed.1

pub subst-requires : goal.subst-requires
subst-requires c = c.in-Assign.ensures.placed.0
