use Rattle.std.proofs.Common.{arith}
use Rattle.std.proofs.lemmas.Grind.{common_steps}
use Rattle.tree_check.proofs.Settling.{plans_given}
use Rattle.tree_check.proofs.rounds.give_up.Goals as goal

pub returns-clause-given : goal.returns-clause-given
returns-clause-given g c =
    plans_given c.args.trees.now c.args.label c.args.refuted.now c.index-trees-label.result c.undefine.new.self c.in_ok-cause.cause c.requires.label c.in_ok-cause.ensures c.undefine.ensures

pub returns-clause-dropped : goal.returns-clause-dropped
returns-clause-dropped g c = grind (arith, common_steps)
