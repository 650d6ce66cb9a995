use Rattle.std.proofs.Common.{length}
use Rattle.step_meaning.specs.Syntax.{statements}
use Rattle.control_flow.proofs.PlainActions.{is_assigned, is_tested}
use Rattle.control_flow.proofs.fitting.check_label.Goals as goal

pub affine_of-requires-clause-affine : goal.affine_of-requires-clause-affine
affine_of-requires-clause-affine c =
    let valid = c.args.graph.now.valid in
    (is_assigned (statements c.args.graph.now.body) (length c.args.graph.now.names) valid.few valid.well_sorted c.requires.plain c.args.label c.requires.within _ _ _ c.in-Assign.ensures.action).affine

pub affine_of-requires-clause-names : goal.affine_of-requires-clause-names
affine_of-requires-clause-names c =
    let valid = c.args.graph.now.valid in
    (is_assigned (statements c.args.graph.now.body) (length c.args.graph.now.names) valid.few valid.well_sorted c.requires.plain c.args.label c.requires.within _ _ _ c.in-Assign.ensures.action).names

pub check_test-requires-clause-plain : goal.check_test-requires-clause-plain
check_test-requires-clause-plain c =
    let valid = c.args.graph.now.valid in
    (is_tested (statements c.args.graph.now.body) (length c.args.graph.now.names) valid.few valid.well_sorted c.requires.plain c.args.label c.requires.within _ _ _ _ c.in-Test.ensures.action).plain

pub check_test-requires-clause-names : goal.check_test-requires-clause-names
check_test-requires-clause-names c =
    let valid = c.args.graph.now.valid in
    (is_tested (statements c.args.graph.now.body) (length c.args.graph.now.names) valid.few valid.well_sorted c.requires.plain c.args.label c.requires.within _ _ _ _ c.in-Test.ensures.action).names
