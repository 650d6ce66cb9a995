use Rattle.tree_widening.proofs.Widened.{first_trimmed}
use Rattle.tree_widening.proofs.laws.the_first_claim_is_that_of_the_trimmed_tree.Goals as goal

pub returns : goal.returns
returns g c = first_trimmed g.R.PartialEq.eq g.met.R.Rank.equal_law
