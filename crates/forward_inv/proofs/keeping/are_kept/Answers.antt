use Rattle.std.proofs.Common.{rules, subst}
use Rattle.step_meaning.specs.Syntax.{statements}
use Rattle.control_flow.specs.Actions.{IsPlaced}
use Rattle.control_flow.specs.Labels.{action_at}
use Rattle.control_flow.specs.Transitions.{IsOver}
use Rattle.forward_inv.proofs.Holding.{kept_edges, looked_up}
use Rattle.forward_inv.proofs.keeping.are_kept.Goals as goal

pub returns : goal.returns
returns g c truth =
    let body = statements c.args.graph.now.body in
    let set = c.in-Some.set.now in
    let bounds = g.D.NumDomain.told_bounds set in
    let transition = c.in_ok-transition.transition in
    let own = looked_up c.args.sets.now c.args.label set c.in-Some.ensures.lookup.0 c.in-Some.ensures.lookup.1 in
    let over : IsOver bounds (action_at body c.args.label) transition =
    subst (λ b. IsOver b (action_at body c.args.label) transition) c.bounds.ensures
    (subst (λ a. IsOver c.bounds.result a transition) c.action.ensures.action c.in_ok-transition.ensures) in
    kept_edges g.D.NumDomain.has body bounds transition c.args.sets.now c.args.label set c.edges.result c.edges.ensures own
    (subst IsPlaced c.action.ensures.action c.action.ensures.placed) over (c.in_ok-is_kept.ensures (search rules)) (c.in_ok-kept.ensures truth)
