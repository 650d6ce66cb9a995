use borrow.Author.Tests.{tests}
use Rattle.std.proofs.Common.{rules}
use Rattle.typed_expressions.proofs.grouping.Grouping.+attaching.Goals as goal

pub returns-in_ok-new-in-Pair : goal.returns-in_ok-new-in-Pair
returns-in_ok-new-in-Pair t c = search (tests, rules)
