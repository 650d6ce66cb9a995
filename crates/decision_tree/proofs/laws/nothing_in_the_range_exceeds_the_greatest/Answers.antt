use Rattle.decision_tree.proofs.Greatest.{never_exceeded}
use Rattle.decision_tree.proofs.laws.nothing_in_the_range_exceeds_the_greatest.Goals as goal

pub returns : goal.returns
returns g c rank best place range store z low long is covers =
    never_exceeded g.R.Rank.exceeds g.R.Rank.rank_value (g.R.Rank.substituted rank place) rank best (g.R.Rank.trend rank place) place range store z
    (λ by. g.met.R.Rank.subst_law rank place by store low long)
    (λ w runs. g.met.R.Rank.trend_law rank place store z w low long runs)
    is covers
