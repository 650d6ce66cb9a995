use Rattle.std.proofs.Common.{map, arith}
use Rattle.std.proofs.lemmas.Grind.{common_steps}
use Rattle.decision_tree.specs.Plans.{plan_of}
use Rattle.tree_support.specs.Setting.{trees_in}
use Rattle.tree_check.specs.Rounds.{setting_on}
use Rattle.tree_check.proofs.Narrowing.{elsewhere_cleared}
use Rattle.tree_check.proofs.rounds.Premises.tell.Goals as goal

pub returns-then-not-leads-clause-cleared : goal.returns-then-not-leads-clause-cleared
returns-then-not-leads-clause-cleared g c =
    elsewhere_cleared g.R.Rank (setting_on g.D.NumDomain c.args.self.now) (trees_in (map plan_of c.args.trees.now)) c.args.dropped.now c.args.label (c.leads.ensures c.if-not-leads.true)

pub bounds-self-label : goal.bounds-self-label
bounds-self-label g c = grind (arith, common_steps)

pub at-requires : goal.at-requires
at-requires g c = grind (arith, common_steps)
