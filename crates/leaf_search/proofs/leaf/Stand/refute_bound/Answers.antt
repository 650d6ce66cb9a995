use Rattle.std.proofs.Common.{arith}
use Rattle.std.proofs.lemmas.Grind.{elements}
use Rattle.leaf_search.proofs.leaf.Stand.refute_bound.Goals as goal

pub returns-then-has_bound-clause-searched : goal.returns-then-has_bound-clause-searched
returns-then-has_bound-clause-searched g c = grind (arith, elements)
