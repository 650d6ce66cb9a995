use Rattle.tree_unify.proofs.Asking.{later_first, later_none, later_second, later_undefined}
use Rattle.tree_unify.proofs.laws.later_has_the_greater_rank.Goals as goal

pub returns : goal.returns
returns g c = record {
  second = λ a b store why other rank next here there exceeds.
      later_second g.R.PartialEq.eq g.met.R.Rank.equal_law g.R.Rank.where_greater g.R.Rank.greater_fits a b store why other rank next here there ((g.met.R.Rank.greater_law next rank store).1 exceeds);
  first = λ a b store why other rank next here there at_most.
      later_first g.R.PartialEq.eq g.met.R.Rank.equal_law g.R.Rank.where_greater g.R.Rank.greater_fits a b store why other rank next here there (λ met. at_most ((g.met.R.Rank.greater_law next rank store).0 met));
  first_undefined = later_none g.R.PartialEq.eq g.met.R.Rank.equal_law g.R.Rank.where_greater g.R.Rank.greater_fits;
  second_undefined = later_undefined g.R.PartialEq.eq g.met.R.Rank.equal_law g.R.Rank.where_greater g.R.Rank.greater_fits;
}
