use Rattle.std.proofs.Common.{arith}
use Rattle.step_meaning.specs.Syntax.{statements}
use Rattle.control_flow.proofs.Readers.{few_nodes}
use Rattle.control_flow.proofs.graph.Graph.labels.Goals as goal

pub overflow_cast-result : goal.overflow_cast-result
overflow_cast-result c =
    let few = few_nodes c.self.inside.nodes.items (statements c.self.inside.program.body) c.self.invariant.0 in
    omega arith

pub returns-clause-few : goal.returns-clause-few
returns-clause-few c =
    let few = few_nodes c.self.inside.nodes.items (statements c.self.inside.program.body) c.self.invariant.0 in
    omega arith
