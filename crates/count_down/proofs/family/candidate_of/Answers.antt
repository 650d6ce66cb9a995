use Rattle.std.proofs.Common.{length, refl, ap, ◌∙◌, arith}
use Rattle.step_meaning.specs.Syntax.{statements}
use Rattle.decision_tree.specs.Plans.{bottom}
use Rattle.control_flow.specs.Labels.{entry_of}
use Rattle.control_flow.proofs.LabelLaws.{count_of_labels, entry_is_a_label}
use Rattle.count_down.proofs.Finding.{is_countdown}
use Rattle.count_down.proofs.Labelling.{length_candidate, whole_candidate}
use Rattle.count_down.proofs.family.candidate_of.Goals as goal

pub trees-requires-clause-few : goal.trees-requires-clause-few
trees-requires-clause-few c =
    let count = count_of_labels (statements c.args.program.now.body) in
    let labels = c.requires.count in
    let few = c.requires.few in
    omega arith

pub returns-in_ok-trees-in-Some-clause-countdown : goal.returns-in_ok-trees-in-Some-clause-countdown
returns-in_ok-trees-in-Some-clause-countdown c =
    (λ h. is_countdown c.in-Some.countdown (statements c.args.program.now.body) c.in-Some.ensures.some, λ h. refl)

pub returns-in_ok-trees-in-Some-clause-labels : goal.returns-in_ok-trees-in-Some-clause-labels
returns-in_ok-trees-in-Some-clause-labels c =
    let made = ap length (c.of.ensures ∙ c.in_ok-trees-in-Some.ensures) in
    let trees = length_candidate c.in-Some.countdown (statements c.args.program.now.body) c.in-Some.ensures.some in
    let count = count_of_labels (statements c.args.program.now.body) in
    omega arith

pub returns-in_ok-trees-in-Some-clause-entry : goal.returns-in_ok-trees-in-Some-clause-entry
returns-in_ok-trees-in-Some-clause-entry c =
    let body = statements c.args.program.now.body in
    let trees = length_candidate c.in-Some.countdown body c.in-Some.ensures.some in
    let count = count_of_labels (statements c.args.program.now.body) in
    let entry = entry_is_a_label (statements c.args.program.now.body) in
    rw (c.of.ensures ∙ c.in_ok-trees-in-Some.ensures)
    (whole_candidate c.in-Some.countdown body (entry_of (statements c.args.program.now.body)) bottom (omega arith))
