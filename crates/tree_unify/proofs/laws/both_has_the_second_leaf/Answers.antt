use Rattle.tree_unify.proofs.Asking.{both_first, both_second}
use Rattle.tree_unify.proofs.laws.both_has_the_second_leaf.Goals as goal

pub returns : goal.returns
returns g c = record {
  second = both_second g.R.PartialEq.eq g.met.R.Rank.equal_law g.R.Rank.where_greater g.R.Rank.greater_fits;
  first = both_first g.R.PartialEq.eq g.met.R.Rank.equal_law g.R.Rank.where_greater g.R.Rank.greater_fits;
}
