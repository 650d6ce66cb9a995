use Rattle.std.proofs.Common.{arith, map, rules, subst}
use Rattle.std.proofs.lemmas.Grind.{common_steps}
use Rattle.decision_tree.specs.Plans.{plan_of}
use Rattle.tree_support.specs.Setting.{trees_in}
use Rattle.tree_check.specs.Rounds.{AreElsewhere, setting_on}
use Rattle.tree_check.specs.Telling.{IsTold}
use Rattle.tree_check.proofs.Telling.{all_still_told, elsewhere_supported, told_by_survey, told_of_all, told_some}
use Rattle.tree_check.proofs.rounds.Premises.visit.Goals as goal

pub returns-then-leading-eq0-clause-told : goal.returns-then-leading-eq0-clause-told
returns-then-leading-eq0-clause-told g c =
    let at = setting_on g.D.NumDomain c.args.self.now in
    let family = trees_in (map plan_of c.args.trees.now) in
    let labels = c.requires.labels in
    let inside = c.requires.label in
    let elsewhere : AreElsewhere at c.args.label c.in-Some.from c.args.drops.now.items =
    (let there = c.leading-leading.ensures c.if-leading-eq0.true in rw c.deref.ensures.value at there) in
    told_some g.R.Rank at family c.args.drops.now.items c.args.told.now c.args.label c.len.result (omega (arith, labels, inside)) c.requires.told
    (subst (λ n. IsTold g.R.Rank at family c.args.drops.now.items n c.args.label) (search rules)
    (told_by_survey g.R.Rank at family c.args.drops.now.items c.args.label
    (elsewhere_supported g.R.Rank at family c.args.drops.now.items c.in-Some.from c.args.label elsewhere
    (c.requires.told c.args.label c.in-Some.from c.in-Some.is))))

pub returns-then-leading-eq0-clause-supported : goal.returns-then-leading-eq0-clause-supported
returns-then-leading-eq0-clause-supported g c same =
    let at = setting_on g.D.NumDomain c.args.self.now in
    let elsewhere : AreElsewhere at c.args.label c.in-Some.from c.args.drops.now.items =
    (let there = c.leading-leading.ensures c.if-leading-eq0.true in rw c.deref.ensures.value at there) in
    elsewhere_supported g.R.Rank at (trees_in (map plan_of c.args.trees.now)) c.args.drops.now.items c.in-Some.from c.args.label elsewhere
    (c.requires.told c.args.label c.in-Some.from c.in-Some.is)

pub tell_each-requires-clause-told : goal.tell_each-requires-clause-told
tell_each-requires-clause-told g c = c.requires.told c.args.label c.in-Some.from c.in-Some.is

pub returns-clause-told : goal.returns-clause-told
returns-clause-told g c =
    let labels = c.requires.labels in
    let inside = c.requires.label in
    told_some g.R.Rank (setting_on g.D.NumDomain c.args.self.now) (trees_in (map plan_of c.tell_each.new.trees)) c.tell_each.new.drops.items c.args.told.now c.args.label
    c.in_ok-number.number (omega (arith, labels, inside))
    (all_still_told g.R.Rank (setting_on g.D.NumDomain c.args.self.now) (map plan_of c.args.trees.now) (map plan_of c.tell_each.new.trees) c.args.drops.now.items c.tell_each.new.drops.items c.args.told.now
    c.tell_each.ensures.advances c.requires.told)
    c.in_ok-number.ensures.told.1

pub returns-clause-supported : goal.returns-clause-supported
returns-clause-supported g c same =
    let all = c.in_ok-number.ensures.told.0 in
    told_of_all g.R.Rank (setting_on g.D.NumDomain c.args.self.now) (trees_in (map plan_of c.tell_each.new.trees)) c.tell_each.new.drops.items c.in_ok-number.number c.args.label
    (omega (arith, all)) c.in_ok-number.ensures.told.1

pub bounds-told-label-then-leading-eq0 : goal.bounds-told-label-then-leading-eq0
bounds-told-label-then-leading-eq0 g c = grind (arith, common_steps)

pub bounds-trees-label : goal.bounds-trees-label
bounds-trees-label g c = grind (arith, common_steps)

pub survey-requires-then-leads : goal.survey-requires-then-leads
survey-requires-then-leads g c = grind (arith, common_steps)
