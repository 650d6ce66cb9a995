use Rattle.std.proofs.Common.{length, refl, arith}
use Rattle.step_meaning.specs.Syntax.{statements}
use Rattle.control_flow.specs.Labels.{action_at, all_labels}
use Rattle.forward_inv.proofs.Entering.{all_below, label_noted}
use Rattle.forward_inv.proofs.behind.note_all.Goals as goal

pub loop-label-preserved : goal.loop-label-preserved
loop-label-preserved c =
    let body = statements c.args.graph.now.body in
    let below = c.loop-label-test.true in
    let count = c.labels-label-end.ensures.count in
    rw (c.note-in-loop-label.ensures, c.note.ensures, c.edges-edges.ensures)
    (label_noted body (length (all_labels body)) c.loop-label.label c.loop-label.all _ _ (action_at body c.loop-label.label) refl
    (c.edges_lead_to_labels.ensures.edges body c.loop-label.label (omega (arith, below, count))) c.loop-label.invariant)

pub returns : goal.returns
returns c =
    let past = c.loop-label-test.false in
    let count = c.labels-label-end.ensures.count in
    all_below (statements c.args.graph.now.body) c.loop-label.label c.loop-label.all (omega (arith, past, count)) c.loop-label.invariant
