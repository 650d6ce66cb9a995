use Rattle.std.proofs.Common.{◌∙◌, ap, subst}
use Rattle.step_meaning.specs.declared.program.Program.{Program}
use Rattle.step_meaning.specs.Syntax.{statements}
use Rattle.control_flow.specs.Tables.{IsTableOf, action_of}
use Rattle.control_flow.proofs.Readers.{node_at}
use Rattle.control_flow.proofs.graph.Graph.node.Goals as goal

pub returns : goal.returns
returns c =
    let table : IsTableOf c.self.inside.nodes.items (statements c.args.self.now.body) =
    subst (λ (program : Program). IsTableOf c.self.inside.nodes.items (statements program.body)) c.self.view_is c.self.invariant.0 in
    ap action_of c.index.ensures ∙ node_at c.self.inside.nodes.items (statements c.args.self.now.body) table c.args.label c.index.result.now c.requires
