use Rattle.std.proofs.Common.{length, sym, subst}
use Rattle.step_meaning.specs.Syntax.{statements}
use Rattle.control_flow.specs.Invariants.{AreInvariants}
use Rattle.forward_inv.proofs.Members.{are_invariants}
use Rattle.forward_inv.proofs.sets.invariants.Goals as goal

pub meet_rows-requires : goal.meet_rows-requires
meet_rows-requires g c =
    let valid = c.args.graph.now.valid in
    let vars = length c.args.graph.now.names in
    let body = statements c.args.graph.now.body in
    subst (AreInvariants g.D.NumDomain.has vars body) (sym c.deref_mut.ensures.value)
    (are_invariants g.D.NumDomain.has vars body c.in_ok-states.states.items valid.few valid.well_sorted c.in_ok-states.ensures)
