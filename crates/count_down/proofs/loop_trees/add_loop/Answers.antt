use Rattle.std.proofs.Common.{◌++◌, ◌∷◌, [], map, reverse, ap, ◌∙◌}
use Rattle.std.proofs.lemmas.List.{map-append}
use Rattle.step_meaning.specs.Syntax.{statements}
use Rattle.decision_tree.specs.Plans.{plan_of}
use Rattle.count_down.specs.Building.{plans}
use Rattle.count_down.specs.Candidates.{behind, inner, inside, last_steps, turn_counts, turn_steps}
use Rattle.count_down.specs.Trees.{count_tree}
use Rattle.count_down.proofs.Listing.{added_last, map_reverse}
use Rattle.count_down.proofs.loop_trees.add_loop.Goals as goal

pub returns-clause-list : goal.returns-clause-list
returns-clause-list c =
    let e = c.args.function.now in
    let body = statements c.args.body.now in
    let step = statements c.args.step.now in
    let more = statements c.args.rest.now in
    let m = turn_steps e body step in
    let s = last_steps more in
    let inside_loop = rw (c.in_ok-turn.ensures.steps, c.in_ok-last.ensures.steps) at c.in_ok-add_inside.ensures in
    let head = rw (c.in_ok-turn.ensures.steps, c.in_ok-last.ensures.steps) at c.in_ok-count_tree.ensures in
    let last_counts = c.deref.ensures.value ∙ c.in_ok-turn.ensures.list in
    let trees = inside_loop ∙ ap (λ t. plans c.add_behind.new.list.items ++ map (inside m s e) t) last_counts
    ∙ ap (λ t. plans c.add_behind.new.list.items ++ t) (map_reverse (inside m s e) (turn_counts e body step))
    ∙ ap (λ t. t ++ reverse (inner m s e body step)) c.in_ok-last.ensures.list in
    ap plans c.in_ok-push.ensures.items
    ∙ map-append plan_of c.add_inside.new.list.items (c.in_ok-count_tree.field-0 ∷ [])
    ∙ ap (λ t. t ++ plan_of c.in_ok-count_tree.field-0 ∷ []) trees
    ∙ ap (λ t. plans c.args.list.now.items ++ reverse (behind more) ++ reverse (inner m s e body step) ++ t ∷ []) head
    ∙ added_last (plans c.args.list.now.items) (inner m s e body step) (behind more) (count_tree m s e 0)
