use Rattle.std.proofs.Common.{◌∙◌, refl}
use Rattle.decision_tree.specs.Evaluation.{eval}
use Rattle.decision_tree.specs.Plans.{bottom}
use Rattle.backward_transfer.specs.Ranges.{later_of}
use Rattle.backward_transfer.specs.Steps.{stepped}
use Rattle.backward_transfer.specs.Tests.{tested}
use Rattle.backward_transfer.proofs.Standing.{cut_eval, step_eval}
use Rattle.backward_transfer.proofs.Trying.{test_stands}
use Rattle.backward_transfer.proofs.laws.a_test_asks_its_outcomes.Goals as goal

pub returns : goal.returns
returns g c = record {
  holds = λ this that holds fails store met missed.
      cut_eval g.R.PartialEq.eq g.met.R.Rank.equal_law (tested g.R.PartialEq.eq g.R.Rank.where_greater g.R.Rank.greater_fits g.R.Rank.one_more this that holds fails) store ∙ test_stands g.R.PartialEq.eq g.met.R.Rank.equal_law store (stepped g.R.PartialEq.eq g.R.Rank.one_more (eval this store)) g.R.Rank.where_greater g.R.Rank.greater_fits g.R.Rank.one_more this that fails holds
      (λ one other. absurd (missed other)) (λ one none. step_eval g.R.PartialEq.eq g.met.R.Rank.equal_law g.R.Rank.one_more this store) (λ none other. absurd (none met)) (λ none other. absurd (none met));
  fails = λ this that holds fails store missed met.
      cut_eval g.R.PartialEq.eq g.met.R.Rank.equal_law (tested g.R.PartialEq.eq g.R.Rank.where_greater g.R.Rank.greater_fits g.R.Rank.one_more this that holds fails) store ∙ test_stands g.R.PartialEq.eq g.met.R.Rank.equal_law store (stepped g.R.PartialEq.eq g.R.Rank.one_more (eval that store)) g.R.Rank.where_greater g.R.Rank.greater_fits g.R.Rank.one_more this that fails holds
      (λ one other. absurd (missed one)) (λ one none. absurd (missed one)) (λ none other. step_eval g.R.PartialEq.eq g.met.R.Rank.equal_law g.R.Rank.one_more that store) (λ none other. absurd (other met));
  both = λ this that holds fails store met also.
      cut_eval g.R.PartialEq.eq g.met.R.Rank.equal_law (tested g.R.PartialEq.eq g.R.Rank.where_greater g.R.Rank.greater_fits g.R.Rank.one_more this that holds fails) store ∙ test_stands g.R.PartialEq.eq g.met.R.Rank.equal_law store (stepped g.R.PartialEq.eq g.R.Rank.one_more (eval (later_of g.R.PartialEq.eq g.R.Rank.where_greater g.R.Rank.greater_fits this that) store)) g.R.Rank.where_greater g.R.Rank.greater_fits g.R.Rank.one_more this that fails holds
      (λ one other. step_eval g.R.PartialEq.eq g.met.R.Rank.equal_law g.R.Rank.one_more (later_of g.R.PartialEq.eq g.R.Rank.where_greater g.R.Rank.greater_fits this that) store) (λ one none. absurd (none also)) (λ none other. absurd (none met)) (λ none other. absurd (none met));
  neither = λ this that holds fails store missed apart.
      cut_eval g.R.PartialEq.eq g.met.R.Rank.equal_law (tested g.R.PartialEq.eq g.R.Rank.where_greater g.R.Rank.greater_fits g.R.Rank.one_more this that holds fails) store ∙ test_stands g.R.PartialEq.eq g.met.R.Rank.equal_law store bottom g.R.Rank.where_greater g.R.Rank.greater_fits g.R.Rank.one_more this that fails holds
      (λ one other. absurd (missed one)) (λ one none. absurd (missed one)) (λ none other. absurd (apart other)) (λ none other. refl);
}
