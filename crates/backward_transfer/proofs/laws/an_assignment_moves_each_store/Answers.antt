use Rattle.std.proofs.Common.{◌∙◌}
use Rattle.backward_transfer.specs.Steps.{assigned}
use Rattle.backward_transfer.proofs.Standing.{assign_defined, assign_none, cut_eval}
use Rattle.backward_transfer.proofs.laws.an_assignment_moves_each_store.Goals as goal

pub returns : goal.returns
returns g c = record {
  defined = λ plan place value store why rank low long is.
      cut_eval g.R.PartialEq.eq g.met.R.Rank.equal_law (assigned g.R.PartialEq.eq g.R.Rank.substituted g.R.Rank.one_more place value plan) store
      ∙ assign_defined g.R.PartialEq.eq g.met.R.Rank.equal_law g.R.Rank.one_more g.R.Rank.substituted place value store low long plan why rank is;
  undefined = λ plan place value store low long none.
      cut_eval g.R.PartialEq.eq g.met.R.Rank.equal_law (assigned g.R.PartialEq.eq g.R.Rank.substituted g.R.Rank.one_more place value plan) store
      ∙ assign_none g.R.PartialEq.eq g.met.R.Rank.equal_law g.R.Rank.one_more g.R.Rank.substituted place value store low long plan none;
  rank = λ rank place value store low long. g.met.R.Rank.subst_law rank place value store low long;
}
