use Rattle.std.proofs.Common.{length}
use Rattle.step_meaning.specs.Syntax.{statements}
use Rattle.control_flow.proofs.PlainActions.{is_assigned}
use Rattle.control_flow.proofs.graph.Graph.factor.Goals as goal

pub affine_of-requires-clause-affine : goal.affine_of-requires-clause-affine
affine_of-requires-clause-affine c =
    let valid = c.args.self.now.valid in
    (is_assigned (statements c.args.self.now.body) (length c.args.self.now.names) valid.few valid.well_sorted c.requires.plain c.args.label c.requires.within _ _ _ c.in-Assign.ensures.action).affine

pub affine_of-requires-clause-names : goal.affine_of-requires-clause-names
affine_of-requires-clause-names c =
    let valid = c.args.self.now.valid in
    (is_assigned (statements c.args.self.now.body) (length c.args.self.now.names) valid.few valid.well_sorted c.requires.plain c.args.label c.requires.within _ _ _ c.in-Assign.ensures.action).names
