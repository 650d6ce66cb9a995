use Rattle.std.proofs.Common.{arith}
use Rattle.step_meaning.specs.Syntax.{statements}
use Rattle.forward_inv.proofs.Holding.{tops_kept}
use Rattle.forward_inv.proofs.keeping.tops.Goals as goal

pub returns : goal.returns
returns g c =
    let body = statements c.args.graph.now.body in
    tops_kept g.D.NumDomain.has body c.loop.sets.items (let end = c.loop-test.false in let count = c.labels-end.ensures.count in let long = c.loop.invariant.0 in omega (arith, end, count, long)) c.loop.invariant.1 (c.edges_lead_to_labels.ensures.edges body) (c.edges_lead_to_labels.ensures.entry body)
