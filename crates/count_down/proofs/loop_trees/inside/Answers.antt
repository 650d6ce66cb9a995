use Rattle.std.proofs.Common.{rules, SFits, to_z-of_z}
use Rattle.std.specs.Int.{w128}
use Rattle.count_down.proofs.Modest.{ahead_modest, modest_fits}
use Rattle.count_down.proofs.loop_trees.inside.Goals as goal

pub shifted-ahead-requires : goal.shifted-ahead-requires
shifted-ahead-requires c =
    let range : SFits w128 c.args.count.now.change = search rules in
    simp to_z-of_z (modest_fits _ (ahead_modest c.args.function.now c.args.count.now.most c.args.count.now.change c.requires.small c.requires.few.most c.requires.few.moderate))

pub count_tree-requires-clause-modest : goal.count_tree-requires-clause-modest
count_tree-requires-clause-modest c =
    let range : SFits w128 c.args.count.now.change = search rules in
    let made = simp to_z-of_z at c.shifted-ahead.ensures in
    rw made (ahead_modest c.args.function.now c.args.count.now.most c.args.count.now.change c.requires.small c.requires.few.most c.requires.few.moderate)
