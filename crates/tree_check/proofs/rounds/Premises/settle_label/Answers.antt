use Rattle.std.proofs.Common.{arith}
use Rattle.std.proofs.lemmas.Grind.{common_steps}
use Rattle.tree_check.proofs.rounds.Premises.settle_label.Goals as goal

pub at-requires : goal.at-requires
at-requires g c = grind (arith, common_steps)
