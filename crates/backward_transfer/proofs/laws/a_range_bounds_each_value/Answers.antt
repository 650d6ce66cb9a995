use Rattle.std.proofs.Common.{sym, ◌∙◌}
use Rattle.backward_transfer.specs.Ranges.{ranged}
use Rattle.backward_transfer.proofs.Standing.{cut_eval}
use Rattle.backward_transfer.proofs.Throughout.{bounds_at}
use Rattle.backward_transfer.proofs.laws.a_range_bounds_each_value.Goals as goal

pub returns : goal.returns
returns g c plan place range store z why rank low long covers is =
    bounds_at g.R.PartialEq.eq g.met.R.Rank.equal_law g.R.Rank.where_greater g.R.Rank.greater_fits g.R.Rank.trend g.R.Rank.substituted g.R.Rank.one_more
    g.R.Rank.rank_value g.R.Rank.exceeds g.met.R.Rank.greater_law g.met.R.Rank.one_way_law g.met.R.Rank.chain_law g.met.R.Rank.order_law
    place range store z low long covers
    (λ given best greatest more. c.nothing_in_the_range_exceeds_the_greatest.ensures given best place range store z low long greatest covers more)
    plan why rank
    (sym (cut_eval g.R.PartialEq.eq g.met.R.Rank.equal_law (ranged g.R.PartialEq.eq g.R.Rank.where_greater g.R.Rank.greater_fits g.R.Rank.trend g.R.Rank.substituted g.R.Rank.one_more place range plan) store) ∙ is)
