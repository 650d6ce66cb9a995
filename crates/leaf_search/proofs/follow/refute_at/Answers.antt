use Rattle.std.proofs.lemmas.Grind.{common_steps}
use Rattle.std.proofs.Common.{arith}
use Rattle.constraint_stack.specs.Stacks.{all_asked}
use Rattle.leaf_search.proofs.Following.{past_none}
use Rattle.leaf_search.proofs.Walking.{bottom_searched}
use Rattle.leaf_search.proofs.follow.refute_at.Goals as goal

pub returns-in_ok-refuted-in-None-clause-searched :
    goal.returns-in_ok-refuted-in-None-clause-searched
returns-in_ok-refuted-in-None-clause-searched g c asks held =
    let tried = c.in_ok-refuted-in-None.ensures (all_asked asks) held in
    let searched = bottom_searched g.R.Rank c.args.way.now.edge c.args.way.now.sets c.args.way.now.limit asks c.in_ok-refuted-in-None.refuted c.check.new.found tried in
    let past = c.in-None.ensures.lookup.3 in
    rw (past_none c.args.trees.now c.args.label past) searched

pub returns-in_ok-refuted-in-Some-clause-searched : goal.returns-in_ok-refuted-in-Some-clause-searched
returns-in_ok-refuted-in-Some-clause-searched g c = grind (arith, common_steps)
