use borrow.Author.Tests.{tests}
use Rattle.std.proofs.Common.{rules}
use Rattle.leaf_search.proofs.step.refute_above.Goals as goal

pub returns-clause-tried : goal.returns-clause-tried
returns-clause-tried c = search (tests, rules)
