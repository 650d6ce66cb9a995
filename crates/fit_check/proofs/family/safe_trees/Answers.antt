use Rattle.std.proofs.Common.{◌≡◌, List, ◌∷◌, ◌++◌, [], length, length-append, map, ap, sym, subst, ◌∙◌, arith}
use Rattle.std.proofs.lemmas.List.{length-map, map-append}
use Rattle.step_meaning.specs.Syntax.{statements}
use Rattle.control_flow.specs.Labels.{action_at}
use Rattle.control_flow.specs.Told.{Told, told_by}
use Rattle.decision_tree.specs.declared.affine_rank.AffineRank.{AffineRank}
use Rattle.decision_tree.specs.Plans.{Plan, plan_of}
use Rattle.tree_support.specs.Setting.{trees_in}
use Rattle.fit_check.specs.Safety.{AreSafe, IsSafeTree}
use Rattle.fit_check.proofs.SafeLists.{safe_here, safe_more}
use Rattle.fit_check.proofs.family.safe_trees.Goals as goal

pub loop-label-preserved : goal.loop-label-preserved
loop-label-preserved g c =
    let body = statements c.args.graph.now.body in
    let vars = length c.args.graph.now.names in
    let inv = c.args.inv.now in
    let items = c.loop-label.trees.items in
    let plans : List (Plan AffineRank) = map plan_of items in
    let plan : Plan AffineRank = plan_of c.in_ok-tree.tree in
    let now = c.loop-label.invariant.0 in
    let told : Told = told_by g.D.NumDomain.told_bounds g.D.NumDomain.told_rows g.D.NumDomain.seen_empty inv in
    let here : IsSafeTree vars (told.bounds c.loop-label.label) (action_at body c.loop-label.label) plan =
    safe_here vars g.D.NumDomain.told_bounds inv c.loop-label.label c.at.result.now (action_at body c.loop-label.label) plan c.at.ensures c.in_ok-tree.ensures in
    let count : length plans ≡ c.loop-label.label = length-map items plan_of ∙ now in
    let more : AreSafe vars body told.bounds (trees_in (plans ++ plan ∷ [])) =
    safe_more vars body told.bounds plans plan c.loop-label.invariant.1 (subst (λ label. IsSafeTree vars (told.bounds label) (action_at body label) plan) (sym count) here) in
    let is = c.in_ok-push.ensures.items in
    let long = ap length is ∙ length-append items (c.in_ok-tree.tree ∷ []) in (
      omega (arith, long, now),
      subst (λ list. AreSafe vars body told.bounds (trees_in list)) (sym (ap (map plan_of) is ∙ map-append plan_of items (c.in_ok-tree.tree ∷ []))) more,
    )

pub returns : goal.returns
returns g c =
    let body = statements c.args.graph.now.body in
    let vars = length c.args.graph.now.names in
    let told : Told = told_by g.D.NumDomain.told_bounds g.D.NumDomain.told_rows g.D.NumDomain.seen_empty c.args.inv.now in
    record { safe = subst (λ list. AreSafe vars body told.bounds (trees_in list)) (sym c.of.ensures) c.loop-label.invariant.1 }
