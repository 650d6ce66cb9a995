use Rattle.std.proofs.Common.{◌∙◌}
use Rattle.backward_transfer.specs.Steps.{stepped}
use Rattle.backward_transfer.proofs.Standing.{cut_eval, step_defined, step_none}
use Rattle.backward_transfer.proofs.laws.a_step_adds_one.Goals as goal

pub returns : goal.returns
returns g c = record {
  defined = λ plan store why rank is.
      cut_eval g.R.PartialEq.eq g.met.R.Rank.equal_law (stepped g.R.PartialEq.eq g.R.Rank.one_more plan) store
      ∙ step_defined g.R.PartialEq.eq g.met.R.Rank.equal_law g.R.Rank.one_more plan store why rank is;
  undefined = λ plan store none.
      cut_eval g.R.PartialEq.eq g.met.R.Rank.equal_law (stepped g.R.PartialEq.eq g.R.Rank.one_more plan) store
      ∙ step_none g.R.PartialEq.eq g.met.R.Rank.equal_law g.R.Rank.one_more plan store none;
}
