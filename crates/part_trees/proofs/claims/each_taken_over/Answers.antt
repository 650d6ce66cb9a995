use Rattle.std.proofs.Common.{◌≡◌, ◌+◌, List, map, take, ap, ◌∙◌, suc, arith}
use Rattle.std.proofs.lemmas.List.{take_all}
use Rattle.decision_tree.specs.declared.affine_rank.AffineRank.{AffineRank}
use Rattle.decision_tree.specs.declared.tree.Tree.{Tree}
use Rattle.backward_transfer.specs.AffineShapes.{plans}
use Rattle.backward_sweeps.specs.Claiming.{taken_over}
use Rattle.part_trees.proofs.Making.{one_more_made}
use Rattle.part_trees.proofs.claims.each_taken_over.Goals as goal

pub loop-tree-preserved : goal.loop-tree-preserved
loop-tree-preserved c =
    let f = taken_over c.args.why in
    let i = c.loop-tree.tree-index in
    let some = c.loop-tree-test.true in
    let more : suc i ≡ i + 1 = omega arith in
    ap plans c.in_ok-push.ensures.items
    ∙ one_more_made f c.args.trees.now c.loop-tree.made.items i c.tree-item.result c.in_ok-claims.claims some c.tree-item.is c.in_ok-claims.ensures c.loop-tree.invariant
    ∙ ap (λ n. map f (plans (take n c.args.trees.now))) more

pub returns : goal.returns
returns c =
    let none = c.loop-tree-test.false in
    c.loop-tree.invariant
    ∙ ap (λ (list : List (Tree AffineRank)). map (taken_over c.args.why) (plans list)) (take_all c.loop-tree.tree-index c.args.trees.now (omega (arith, none)))
