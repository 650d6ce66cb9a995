use Rattle.tree_widening.proofs.Widened.{stays_the_same}
use Rattle.tree_widening.proofs.laws.a_claim_stays_where_the_newer_tree_makes_it.Goals as goal

pub returns : goal.returns
returns g c = stays_the_same g.R.PartialEq.eq g.met.R.Rank.equal_law g.R.Rank g.R.Extrapolates.raised g.met.R.Extrapolates.itself_law
