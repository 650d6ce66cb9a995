use Rattle.std.proofs.Common.{length, sym, ◌∙◌, ap}
use Rattle.step_meaning.specs.Syntax.{statements}
use Rattle.control_flow.specs.Tables.{action_of}
use Rattle.control_flow.proofs.Measuring.{is_placed}
use Rattle.control_flow.proofs.graph.Graph.action.Goals as goal

pub returns-in-Assign-clause-placed : goal.returns-in-Assign-clause-placed
returns-in-Assign-clause-placed c =
    let valid = c.args.self.now.valid in
    is_placed (length c.args.self.now.names) valid.few (statements c.args.self.now.body) valid.well_sorted c.args.label c.requires _
    (ap action_of (sym c.in-Assign.is) ∙ c.node.ensures)

pub returns-in-Test-clause-placed : goal.returns-in-Test-clause-placed
returns-in-Test-clause-placed c =
    let valid = c.args.self.now.valid in
    is_placed (length c.args.self.now.names) valid.few (statements c.args.self.now.body) valid.well_sorted c.args.label c.requires _
    (ap action_of (sym c.in-Test.is) ∙ c.node.ensures)
