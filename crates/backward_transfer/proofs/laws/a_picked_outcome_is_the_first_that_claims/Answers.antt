use Rattle.backward_transfer.proofs.PickedLeaves.{outcome_fails, outcome_holds, outcome_none}
use Rattle.backward_transfer.proofs.laws.a_picked_outcome_is_the_first_that_claims.Goals as goal

pub returns : goal.returns
returns g c = record {
  holds = λ this that store why rank is.
      outcome_holds g.R.PartialEq.eq g.met.R.Rank.equal_law g.R.Rank.where_greater g.R.Rank.greater_fits g.R.Rank.one_more
      c.either_has_the_first_defined_leaf.ensures.first this that store why rank is;
  fails = λ this that store why rank none is.
      outcome_fails g.R.PartialEq.eq g.met.R.Rank.equal_law g.R.Rank.where_greater g.R.Rank.greater_fits g.R.Rank.one_more
      c.either_has_the_first_defined_leaf.ensures.second this that store why rank none is;
  neither = λ this that store none other.
      outcome_none g.R.PartialEq.eq g.met.R.Rank.equal_law g.R.Rank.where_greater g.R.Rank.greater_fits g.R.Rank.one_more
      c.either_has_the_first_defined_leaf.ensures.neither this that store none other;
}
