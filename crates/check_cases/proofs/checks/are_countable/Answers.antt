use Rattle.std.proofs.Common.{arith}
use Rattle.tree_check.proofs.Counting.{counted_all, counted_more}
use Rattle.check_cases.proofs.checks.are_countable.Goals as goal

pub loop-tree-preserved : goal.loop-tree-preserved
loop-tree-preserved c =
    counted_more 18446744073709551615 c.args.trees.now c.loop-tree.tree-index c.tree-item.result c.leaves.result c.loop-tree-test.true c.tree-item.is c.leaves.ensures c.if-leaves.false c.loop-tree.invariant

pub returns : goal.returns
returns c told = counted_all 18446744073709551615 c.args.trees.now c.loop-tree.tree-index (omega arith) c.loop-tree-test.false c.loop-tree.invariant
