use Rattle.ordinal_rank.proofs.Ending.{never_after, one_more}
use Rattle.ordinal_rank.proofs.laws.bounded_ends_come.Goals as goal

pub returns-clause-comes : goal.returns-clause-comes
returns-clause-comes c order k run ends goes = never_after run goes order k 0 ends

pub returns-clause-more : goal.returns-clause-more
returns-clause-more c = one_more

pub returns-clause-higher : goal.returns-clause-higher
returns-clause-higher c order k configuration ends = (k, ends)
