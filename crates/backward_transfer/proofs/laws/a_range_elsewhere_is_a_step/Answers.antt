use Rattle.backward_transfer.proofs.Throughout.{without_is_step}
use Rattle.backward_transfer.proofs.laws.a_range_elsewhere_is_a_step.Goals as goal

pub returns : goal.returns
returns g c plan place range free =
    without_is_step g.R.PartialEq.eq g.met.R.Rank.equal_law g.R.Rank.where_greater g.R.Rank.greater_fits g.R.Rank.trend g.R.Rank.substituted g.R.Rank.one_more place range plan free
