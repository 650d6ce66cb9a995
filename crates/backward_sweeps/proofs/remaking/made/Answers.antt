use borrow.Author.Differences.{ints}
use Rattle.std.proofs.Common.{rules, arith}
use Rattle.std.proofs.lemmas.Grind.{common_steps}
use Rattle.backward_sweeps.proofs.remaking.made.Goals as goal

pub returns-in_err-kept : goal.returns-in_err-kept
returns-in_err-kept c = search (ints, rules)

pub returns : goal.returns
returns c = grind (arith, common_steps)
