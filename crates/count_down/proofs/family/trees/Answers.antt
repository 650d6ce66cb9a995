use Rattle.std.proofs.Common.{◌++◌, ◌∷◌, [], reverse, ap, ◌∙◌}
use Rattle.std.proofs.lemmas.List.{map-append, reverse-append, reverse-reverse}
use Rattle.step_meaning.specs.Syntax.{statements}
use Rattle.decision_tree.specs.Plans.{plan_of}
use Rattle.count_down.specs.Building.{plans, trees_by}
use Rattle.count_down.specs.Trees.{ended}
use Rattle.count_down.proofs.Labelling.{with_end}
use Rattle.count_down.proofs.Listing.{map_reverse}
use Rattle.count_down.proofs.family.trees.Goals as goal

pub returns : goal.returns
returns c =
    let body = statements c.args.program.now.body in
    let others = trees_by c.args.countdown.now body in
    let added = rw c.in_ok-list.ensures.items at c.in_ok-add_trees.ensures in
    let pushed = ap plans c.in_ok-push.ensures.items
    ∙ map-append plan_of c.add_trees.new.list.items (c.in_ok-end.end ∷ [])
    ∙ ap (λ t. t ++ plan_of c.in_ok-end.end ∷ []) added
    ∙ ap (λ t. reverse others ++ t ∷ []) c.in_ok-end.ensures in
    ap plans c.reverse.ensures.items
    ∙ map_reverse plan_of c.push.new.self.items
    ∙ ap reverse pushed
    ∙ reverse-append (reverse others) (ended ∷ [])
    ∙ ap (λ t. ended ∷ t) (reverse-reverse others)
    ∙ with_end c.args.countdown.now body
