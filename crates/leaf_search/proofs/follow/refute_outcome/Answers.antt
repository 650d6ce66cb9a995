use Rattle.leaf_search.proofs.follow.refute_outcome.Goals as goal

pub returns-then-outcome-clause-searched : goal.returns-then-outcome-clause-searched
returns-then-outcome-clause-searched g c asks held =
    let searched = rw c.deref.ensures.value at c.in_ok-refuted.ensures.searched asks held in
    rw (c.in-Test.is, c.if-outcome.true) searched

pub returns-clause-searched : goal.returns-clause-searched
returns-clause-searched g c asks held =
    let searched = rw c.deref-2.ensures.value at c.in_ok-refuted-2.ensures.searched asks held in
    rw (c.in-Test.is, c.if-outcome.false) searched
