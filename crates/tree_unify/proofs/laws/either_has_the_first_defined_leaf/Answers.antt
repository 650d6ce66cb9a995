use Rattle.tree_unify.proofs.Asking.{either_first, either_none, either_second}
use Rattle.tree_unify.proofs.laws.either_has_the_first_defined_leaf.Goals as goal

pub returns : goal.returns
returns g c = record {
  first = either_first g.R.PartialEq.eq g.met.R.Rank.equal_law g.R.Rank.where_greater g.R.Rank.greater_fits;
  second = either_second g.R.PartialEq.eq g.met.R.Rank.equal_law g.R.Rank.where_greater g.R.Rank.greater_fits;
  neither = either_none g.R.PartialEq.eq g.met.R.Rank.equal_law g.R.Rank.where_greater g.R.Rank.greater_fits;
}
