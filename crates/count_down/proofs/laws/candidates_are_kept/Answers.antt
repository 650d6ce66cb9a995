use Rattle.count_down.proofs.Blocked.{blocked_keeps, blocked_supports}
use Rattle.count_down.proofs.Settled.{candidate_blocked}
use Rattle.step_meaning.specs.Syntax.{statements}
use Rattle.ctl_formula.specs.Formulas.{af_exit}
use Rattle.tree_support.specs.Setting.{setting_of, trees_in}
use Rattle.count_down.proofs.laws.candidates_are_kept.Goals as goal

pub returns : goal.returns
returns c = record {
  kept = λ vars block told parts trees ground candidate drops new eliminates.
      blocked_keeps (setting_of (statements block) told af_exit parts) (trees_in trees) new drops
      (candidate_blocked vars block told parts trees ground candidate) eliminates;
  supported = λ vars block told parts trees ground candidate.
      blocked_supports (setting_of (statements block) told af_exit parts) (trees_in trees)
      (candidate_blocked vars block told parts trees ground candidate);
}
