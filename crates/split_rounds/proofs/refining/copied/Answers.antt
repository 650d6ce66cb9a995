use Rattle.std.proofs.Common.{List, [], ◌∷◌, ◌++◌, map, take, sym, ap, ◌∙◌}
use Rattle.std.proofs.lemmas.List.{map-append}
use Rattle.linear_solve.proofs.Lists.{take_snoc}
use Rattle.decision_tree.specs.declared.affine_rank.AffineRank.{AffineRank}
use Rattle.decision_tree.specs.declared.tree.Tree.{Tree}
use Rattle.decision_tree.specs.Plans.{Plan, plan_of}
use Rattle.split_rounds.proofs.refining.copied.Goals as goal

pub loop-tree-preserved : goal.loop-tree-preserved
loop-tree-preserved c =
    let trees = c.items-tree-items.result.now in
    let i = c.loop-tree.tree-index in
    let tree = c.tree-item.result in
    let front : List (Plan AffineRank) = map plan_of (take i trees) in
    ap (λ (list : List (Tree AffineRank)). map plan_of list) c.in_ok-push.ensures.items
    ∙ map-append plan_of c.loop-tree.twins.items (c.in_ok-twin.twin ∷ [])
    ∙ ap (λ list. list ++ plan_of c.in_ok-twin.twin ∷ []) c.loop-tree.invariant
    ∙ ap (λ plan. front ++ plan ∷ []) c.in_ok-twin.ensures
    ∙ sym (map-append plan_of (take i trees) (tree ∷ []))
    ∙ sym (ap (λ (list : List (Tree AffineRank)). map plan_of list) (take_snoc trees i tree c.loop-tree-test.true c.tree-item.is))
