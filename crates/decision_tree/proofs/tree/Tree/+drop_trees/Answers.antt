use Rattle.std.proofs.Common.{rules, arith, ◌<◌, ◌≤◌}
use Rattle.decision_tree.specs.declared.tree.Tree.{size-Tree}
use Rattle.decision_tree.proofs.Unwinding.{leaf_shallow, no_turns, parts_within, turns}
use Rattle.decision_tree.proofs.tree.Tree.+drop_trees.Goals as goal

pub drop-yes-requires : goal.drop-yes-requires
drop-yes-requires g t c κs =
    let sides : 1 ≤ turns c.args.self = let kept = rw c.in-Node.is at c.loop-self.invariant in omega arith in
    let small = leaf_shallow c.deref_mut.result.now c.args.self (no_turns c.deref_mut.result.now c.in_default.not-Node) sides in
    let here : size-Tree _ c.deref_mut.result.now < t = rw (← c.decreases) small in
    λ within. (((here, tt), tt), (parts_within κs.0 g.row.R.lives within, λ a none. search rules))
