use Rattle.std.proofs.Common.{ap, arith}
use Rattle.std.proofs.lemmas.List.{drop_all}
use Rattle.concrete_syntax.specs.Mirror.{expressions}
use Rattle.elaboration.specs.Levels.{all_levels}
use Rattle.elaboration.proofs.Deepest.{from_first, all_above}
use Rattle.elaboration.proofs.Walks.{drop_next}
use Rattle.elaboration.proofs.levels.all_levels.Goals as goal

pub loop-tree-init : goal.loop-tree-init
loop-tree-init c = (from_first c.args.level _ (all_above c.args.level (expressions c.args.trees.now)), omega arith)

pub loop-tree-preserved : goal.loop-tree-preserved
loop-tree-preserved c =
    let split =
    ap (λ l. all_levels c.args.level (expressions l))
    (drop_next c.args.trees.now c.loop-tree.tree-index c.tree-item.result c.loop-tree-test.true c.tree-item.is)
    in
    let one = c.in_ok-expression_levels.ensures in
    let so_far = c.loop-tree.invariant in
    (omega (arith, split, one, c.max-most.ensures, so_far.0), omega (arith, c.max-most.ensures, so_far.1))

pub returns : goal.returns
returns c =
    let done = ap (λ l. all_levels c.args.level (expressions l)) (drop_all c.loop-tree.tree-index c.args.trees.now c.loop-tree-test.false) in
    let so_far = c.loop-tree.invariant in
    omega (arith, done, so_far.0, so_far.1)
