use Rattle.std.proofs.Common.{refl}
use Rattle.decision_tree.specs.Evaluation.{eval}
use Rattle.ctl_rounds.proofs.CoverLaws.{HasFirst, cover_keeps}
use Rattle.ctl_rounds.proofs.laws.covers_keep_their_claims.Goals as goal

pub returns : goal.returns
returns c = λ body tops more old new one two store defined.
    let law : HasFirst = record {
      first = c.either_has_the_first_defined_leaf.ensures.first;
      second = c.either_has_the_first_defined_leaf.ensures.second;
      neither = c.either_has_the_first_defined_leaf.ensures.neither;
    } in
    cover_keeps law store (eval old store) defined body tops more old new one two refl
