use Rattle.leaf_search.proofs.Walking.{plain_searched}
use Rattle.leaf_search.proofs.leaf.Stand.refute_branch.Goals as goal

pub returns-in_ok-refuted-in-Some-clause-searched : goal.returns-in_ok-refuted-in-Some-clause-searched
returns-in_ok-refuted-in-Some-clause-searched g c at is_at asks held =
    let to = rw c.in-Some.is at c.targets.ensures.over at is_at (at.flow.arcs_of c.args.self.now.label c.args.outcome) asks in
    rw (to, is_at.follows.outcomes c.args.outcome) (c.in_ok-refuted-in-Some.ensures.searched asks held)

pub returns-in_ok-refuted-in-None-clause-searched : goal.returns-in_ok-refuted-in-None-clause-searched
returns-in_ok-refuted-in-None-clause-searched g c at is_at asks held =
    let to = rw c.in-None.is at c.targets.ensures.over at is_at (at.flow.arcs_of c.args.self.now.label c.args.outcome) asks in
    rw to (plain_searched g.R.Rank 2 asks c.in_ok-refuted-in-None.refuted c.refute_plain.new.found (c.in_ok-refuted-in-None.ensures.tried asks held))
