use Rattle.std.proofs.Common.{◌≡◌, length, map, rules, subst, sym}
use Rattle.decision_tree.specs.Plans.{plan_of}
use Rattle.tree_support.specs.Setting.{trees_in}
use Rattle.tree_check.specs.Rounds.{setting_on}
use Rattle.tree_check.specs.Telling.{AreSame, AreTold, AreToldBeside}
use Rattle.tree_check.proofs.Beside.{told_beside}
use Rattle.tree_check.proofs.rounds.Premises.settle_beside.Goals as goal

pub settle_told-requires-clause-told : goal.settle_told-requires-clause-told
settle_told-requires-clause-told g c =
    let at = setting_on g.D.NumDomain c.args.self.now in
    let known = map plan_of c.args.known.now in
    let trees = map plan_of c.args.trees.now in
    let drops = c.args.drops.now.items in
    let same = c.deref.result.now in
    let told = c.in_ok-told.told.items in
    let are : AreSame known trees same = subst (AreSame known trees) (sym c.deref.ensures.value) c.in_ok-same.ensures in
    let count : c.len.result ≡ length drops = search rules in
    let beside : AreToldBeside at same (length drops) told = subst (λ number. AreToldBeside at same number told) count c.in_ok-told.ensures.told in
    subst (AreTold g.R.Rank at (trees_in trees) drops) (sym c.deref_mut.ensures.value)
    (told_beside at known trees same are g.R.Rank c.requires.known drops told beside)
