use Rattle.std.proofs.Common.{IfSome, get_or, length, sym, subst, ◌∙◌, arith}
use Rattle.std.proofs.lemmas.Option.{same_Some, slice_get-get_or}
use Rattle.step_meaning.specs.Syntax.{statements}
use Rattle.forward_inv.specs.Behind.{IsMetOnArrival}
use Rattle.forward_inv.proofs.Arriving.{invariants_met, row_met, slot_elsewhere}
use Rattle.forward_inv.proofs.behind.meet_row.Goals as goal

pub returns-in_ok-meet_row-clause-members : goal.returns-in_ok-meet_row-clause-members
returns-in_ok-meet_row-clause-members g c =
    let vars = length c.args.graph.now.names in
    let body = statements c.args.graph.now.body in
    let inside = c.requires.inside in
    let long = c.requires.members.labels in
    invariants_met g.D.NumDomain.has vars body c.args.states.now c.args.label
    (get_or c.args.states.now c.args.label c.index-states-label.result) c.meet_row.new.self c.in-Some.row (omega (arith, inside, long))
    (slice_get-get_or c.args.states.now c.args.label c.index-states-label.result (omega (arith, inside, long)))
    c.requires.members (subst (λ found. IfSome found (IsMetOnArrival vars body c.args.label)) c.in-Some.is c.in_ok-row.ensures.met)
    c.in_ok-meet_row.ensures.keeps

pub returns-in_ok-meet_row-clause-behind : goal.returns-in_ok-meet_row-clause-behind
returns-in_ok-meet_row-clause-behind g c =
    let inside = c.requires.inside in
    let long = c.requires.members.labels in
    row_met g.D.NumDomain.has (length c.args.graph.now.names) (statements c.args.graph.now.body) c.args.states.now c.args.label
    c.index-states-label.result c.meet_row.new.self c.in-Some.row (omega (arith, inside, long)) c.in_ok-meet_row.ensures.plain
    (λ other behind. sym (same_Some _ _ (sym c.in-Some.is ∙ c.in_ok-row.ensures.each other behind)))

pub returns-in_ok-meet_row-clause-others : goal.returns-in_ok-meet_row-clause-others
returns-in_ok-meet_row-clause-others g c other apart = slot_elsewhere c.args.states.now c.args.label other c.meet_row.new.self apart

pub returns-in_default-clause-behind : goal.returns-in_default-clause-behind
returns-in_default-clause-behind g c row behind = let found = c.in_ok-row.ensures.each row behind in let none = c.in_default.is in absurd (cc)
