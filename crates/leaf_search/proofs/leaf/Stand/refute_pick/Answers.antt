use Rattle.leaf_search.proofs.leaf.Stand.refute_pick.Goals as goal

pub returns-in_ok-refuted-in-All-clause-searched : goal.returns-in_ok-refuted-in-All-clause-searched
returns-in_ok-refuted-in-All-clause-searched g c at is_at asks held =
    rw c.in-All.is (c.in_ok-refuted-in-All.ensures.searched at is_at asks held)

pub returns-in_ok-refuted-in-Yes-clause-searched : goal.returns-in_ok-refuted-in-Yes-clause-searched
returns-in_ok-refuted-in-Yes-clause-searched g c at is_at asks held =
    rw c.in-Yes.is (c.in_ok-refuted-in-Yes.ensures.searched at is_at asks held)

pub returns-in_ok-refuted-in-No-clause-searched : goal.returns-in_ok-refuted-in-No-clause-searched
returns-in_ok-refuted-in-No-clause-searched g c at is_at asks held =
    rw c.in-No.is (c.in_ok-refuted-in-No.ensures.searched at is_at asks held)

pub returns-in_ok-refuted-in-Value-clause-searched : goal.returns-in_ok-refuted-in-Value-clause-searched
returns-in_ok-refuted-in-Value-clause-searched g c at is_at asks held =
    rw c.in-Value.is (c.in_ok-refuted-in-Value.ensures.searched at is_at asks held)
