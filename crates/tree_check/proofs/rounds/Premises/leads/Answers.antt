use Rattle.std.proofs.Common.{slice_get}
use Rattle.step_meaning.specs.Syntax.{statements}
use Rattle.control_flow.specs.Labels.{action_at}
use Rattle.control_flow.specs.Told.{no_bounds, told_at}
use Rattle.tree_check.proofs.Reading.{arcs_avoid, outcome_avoids, value_avoids}
use Rattle.tree_check.proofs.rounds.Premises.leads.Goals as goal

pub returns-else-target-other : goal.returns-else-target-other
returns-else-target-other g c none =
    let action = action_at (statements c.args.self.now.graph.now.body) c.args.label in
    let bounds = told_at g.D.NumDomain.told_bounds no_bounds (slice_get c.args.self.now.inv.now c.args.label) in record {
      every = arcs_avoid c.args.label c.args.other action c.edges-edges.result c.target.result c.target-else-target-other.result c.edges-edges.ensures
          c.target.ensures c.target-else-target-other.ensures c.if-target-other.false none bounds;
      outcomes = outcome_avoids c.args.label c.args.other action c.edges-edges.result c.target.result c.target-else-target-other.result
          c.edges-edges.ensures c.target.ensures c.target-else-target-other.ensures c.if-target-other.false none bounds;
      values = value_avoids c.args.label c.args.other action c.edges-edges.result c.target.result c.target-else-target-other.result
          c.edges-edges.ensures c.target.ensures c.target-else-target-other.ensures c.if-target-other.false none;
    }
