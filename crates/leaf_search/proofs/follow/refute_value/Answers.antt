use Rattle.leaf_search.proofs.follow.refute_value.Goals as goal

pub returns-in_ok-refuted-in-Assign-clause-searched : goal.returns-in_ok-refuted-in-Assign-clause-searched
returns-in_ok-refuted-in-Assign-clause-searched g c asks held = rw c.in-Assign.is (c.in_ok-refuted-in-Assign.ensures.searched asks held)

pub returns-in_ok-refuted-in-Choose-clause-searched : goal.returns-in_ok-refuted-in-Choose-clause-searched
returns-in_ok-refuted-in-Choose-clause-searched g c asks held = rw c.in-Choose.is (c.in_ok-refuted-in-Choose.ensures.searched asks held)
