use Rattle.std.proofs.Common.{arith, inl, inr, map, rules, subst}
use Rattle.std.proofs.lemmas.Grind.{common_steps}
use Rattle.decision_tree.specs.Plans.{plan_of}
use Rattle.tree_support.specs.Setting.{trees_in}
use Rattle.tree_check.specs.Rounds.{setting_on}
use Rattle.tree_check.specs.Telling.{IsTold}
use Rattle.tree_check.proofs.Telling.{all_still_told, told_by_survey, told_none, told_some}
use Rattle.tree_check.proofs.rounds.Premises.survey.Goals as goal

pub returns-then-not-branch-clause-told : goal.returns-then-not-branch-clause-told
returns-then-not-branch-clause-told g c =
    let labels = c.requires.labels in
    let inside = c.requires.label in
    told_none g.R.Rank (setting_on g.D.NumDomain c.args.self.now) (trees_in (map plan_of c.settle_label.new.trees)) c.settle_label.new.drops.items c.args.told.now c.args.label (omega (arith, labels, inside))
    (all_still_told g.R.Rank (setting_on g.D.NumDomain c.args.self.now) (map plan_of c.args.trees.now) (map plan_of c.settle_label.new.trees) c.args.drops.now.items c.settle_label.new.drops.items c.args.told.now
    c.settle_label.ensures.advances c.requires.told)

pub returns-then-not-branch-clause-supported : goal.returns-then-not-branch-clause-supported
returns-then-not-branch-clause-supported g c same = c.in_ok-settle_label.ensures.supported (inr same)

pub returns-clause-told : goal.returns-clause-told
returns-clause-told g c =
    let labels = c.requires.labels in
    let inside = c.requires.label in
    told_some g.R.Rank (setting_on g.D.NumDomain c.args.self.now) (trees_in (map plan_of c.settle_label.new.trees)) c.settle_label.new.drops.items c.args.told.now c.args.label _ (omega (arith, labels, inside))
    (all_still_told g.R.Rank (setting_on g.D.NumDomain c.args.self.now) (map plan_of c.args.trees.now) (map plan_of c.settle_label.new.trees) c.args.drops.now.items c.settle_label.new.drops.items c.args.told.now
    c.settle_label.ensures.advances c.requires.told)
    (subst (λ n. IsTold g.R.Rank (setting_on g.D.NumDomain c.args.self.now) (trees_in (map plan_of c.settle_label.new.trees)) c.settle_label.new.drops.items n c.args.label) (search rules)
    (told_by_survey g.R.Rank (setting_on g.D.NumDomain c.args.self.now) (trees_in (map plan_of c.settle_label.new.trees)) c.settle_label.new.drops.items c.args.label (c.in_ok-settle_label.ensures.supported (inl c.if-not-branch.false))))

pub returns-clause-supported : goal.returns-clause-supported
returns-clause-supported g c same = c.in_ok-settle_label.ensures.supported (inr same)

pub bounds-told-label : goal.bounds-told-label
bounds-told-label g c = grind (arith, common_steps)

pub bounds-told-label-2 : goal.bounds-told-label-2
bounds-told-label-2 g c = grind (arith, common_steps)
