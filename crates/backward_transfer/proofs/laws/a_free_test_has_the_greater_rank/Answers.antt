use Rattle.std.proofs.Common.{◌∙◌, ap, refl}
use Rattle.decision_tree.specs.Evaluation.{eval}
use Rattle.decision_tree.specs.Plans.{is_defined}
use Rattle.tree_unify.proofs.Meeting.{eval_is_end}
use Rattle.backward_transfer.specs.Ranges.{later_of}
use Rattle.backward_transfer.proofs.Standing.{both_defined, either_undefined, step_undefined}
use Rattle.backward_transfer.proofs.laws.a_free_test_has_the_greater_rank.Goals as goal

pub returns : goal.returns
returns g c = record {
  first = λ this that holds fails store why other rank next met also here there at_most.
      c.a_test_asks_its_outcomes.ensures.both this that holds fails store met also
      ∙ both_defined g.R.PartialEq.eq g.R.Rank.one_more _ why rank (c.later_has_the_greater_rank.ensures.first this that store why other rank next here there at_most);
  second = λ this that holds fails store why other rank next met also here there exceeds.
      c.a_test_asks_its_outcomes.ensures.both this that holds fails store met also
      ∙ both_defined g.R.PartialEq.eq g.R.Rank.one_more _ other next (c.later_has_the_greater_rank.ensures.second this that store why other rank next here there exceeds);
  undefined = λ this that holds fails store met also undefined.
      let none = either_undefined (is_defined (eval this store)) (eval this store) (eval that store) (eval (later_of g.R.PartialEq.eq g.R.Rank.where_greater g.R.Rank.greater_fits this that) store) refl
      (c.later_has_the_greater_rank.ensures.first_undefined this that store) (c.later_has_the_greater_rank.ensures.second_undefined this that store) undefined in
      ap is_defined (c.a_test_asks_its_outcomes.ensures.both this that holds fails store met also
      ∙ step_undefined g.R.PartialEq.eq g.met.R.Rank.equal_law g.R.Rank.one_more (eval (later_of g.R.PartialEq.eq g.R.Rank.where_greater g.R.Rank.greater_fits this that) store) (eval_is_end (later_of g.R.PartialEq.eq g.R.Rank.where_greater g.R.Rank.greater_fits this that) store) none)
      ∙ none;
}
