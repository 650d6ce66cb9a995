use Rattle.std.proofs.Common.{◌≡◌, length, slice_set, IfSome, refl, sym, subst, ◌∙◌, arith}
use Rattle.std.proofs.lemmas.Grind.{common_steps}
use Rattle.std.proofs.lemmas.Option.{slice_get_read}
use Rattle.step_meaning.specs.Syntax.{statements}
use Rattle.linear_forms.specs.Spreading.{spread_of}
use Rattle.control_flow.specs.Actions.{IsPlaced}
use Rattle.control_flow.specs.Labels.{action_at}
use Rattle.control_flow.specs.Transitions.{IsOver, conjunctions_in}
use Rattle.control_flow.proofs.Doing.{over_tests}
use Rattle.forward_inv.specs.Behind.{IsEdgeOf, IsEntering, IsMetOnArrival, IsOnlyEdge}
use Rattle.forward_inv.proofs.Arriving.{arrival_meets, asked_over, behind_spreads, if_found, test_placed}
use Rattle.forward_inv.proofs.Entering.{from_a_label}
use Rattle.forward_inv.proofs.behind.row_behind.Goals as goal

pub action-requires : goal.action-requires
action-requires g c =
    let body = statements c.args.graph.now.body in
    let edge = c.in-OneEdge.edge in
    let only : IsOnlyEdge (IsEdgeOf body) c.args.label edge = subst (IsEntering (IsEdgeOf body) c.args.label) c.in-OneEdge.is c.requires.entered in
    from_a_label body edge only.is

pub returns-clause-met : goal.returns-clause-met
returns-clause-met g c =
    let valid = c.args.graph.now.valid in
    let vars = length c.args.graph.now.names in
    let body = statements c.args.graph.now.body in
    let edge = c.in-OneEdge.edge in
    let action = action_at body edge.from in
    let states = c.args.states.now in
    let state = c.index-states-edge.result in
    let bounds = c.bounds-bounds.result in
    let transition = c.in_ok-transition.transition in
    let only : IsOnlyEdge (IsEdgeOf body) c.args.label edge = subst (IsEntering (IsEdgeOf body) c.args.label) c.in-OneEdge.is c.requires.entered in
    let low = from_a_label body edge only.is in
    let long = c.requires.members.labels in
    let test = asked_over edge.from action edge c.in-Test.holds only.is c.in-Test.is in
    let named = test_placed action test.0 (subst IsPlaced c.action.ensures.action c.action.ensures.placed) test.1 in
    let there = slice_get_read states (length states) edge.from state refl (omega (arith, low, long)) c.index-states-edge.is in
    let over : IsOver bounds action transition = subst (λ a. IsOver bounds a transition) c.action.ensures.action c.in_ok-transition.ensures in
    let listed : conjunctions_in transition c.in-Test.holds ≡ spread_of bounds test.0 c.in-Test.holds = over_tests bounds action transition over test.0 test.1 c.in-Test.holds in
    if_found (IsMetOnArrival vars body c.args.label) c.only_row.result (λ row is.
    arrival_meets vars valid.few body valid.well_sorted c.args.label edge test.0 c.in-Test.holds row bounds
    (λ is_entry. let apart = c.if-label-entry.false in let entry = c.entry.ensures in omega (arith, is_entry, apart, entry))
    only c.in-Test.is (sym test.1) (sym listed ∙ sym c.outcome.ensures ∙ (c.only_row.ensures row).0 is)
    (λ store z reached. rw c.bounds-bounds.ensures (g.met.D.NumDomain.bounds_law state (slice_set store 15 z)
    (subst (λ found. IfSome found (λ s. g.D.NumDomain.has s (slice_set store 15 z))) there (c.requires.members.members edge.from store z reached))))
    (λ store lies may. c.spreadings_cover.ensures.cover bounds store lies test.0 named c.in-Test.holds may))

pub returns-clause-each : goal.returns-clause-each
returns-clause-each g c row behind =
    let body = statements c.args.graph.now.body in
    let edge = c.in-OneEdge.edge in
    let action = action_at body edge.from in
    let bounds = c.bounds-bounds.result in
    let transition = c.in_ok-transition.transition in
    let only : IsOnlyEdge (IsEdgeOf body) c.args.label edge = subst (IsEntering (IsEdgeOf body) c.args.label) c.in-OneEdge.is c.requires.entered in
    let test = asked_over edge.from action edge c.in-Test.holds only.is c.in-Test.is in
    let over : IsOver bounds action transition = subst (λ a. IsOver bounds a transition) c.action.ensures.action c.in_ok-transition.ensures in
    (c.only_row.ensures row).1
    (c.outcome.ensures ∙ over_tests bounds action transition over test.0 test.1 c.in-Test.holds
    ∙ behind_spreads body c.args.label row edge test.0 c.in-Test.holds bounds behind only c.in-Test.is (sym test.1))

pub offset_bounds-states-edge : goal.offset_bounds-states-edge
offset_bounds-states-edge g c = grind (arith, common_steps)

pub bounds-states-edge : goal.bounds-states-edge
bounds-states-edge g c = grind (arith, common_steps)
