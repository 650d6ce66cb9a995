use Rattle.std.proofs.Common.{◌≡◌, ◌-◌, ◌^◌, length, ap, ◌∙◌, arith}
use Rattle.step_meaning.specs.Syntax.{statements}
use Rattle.control_flow.specs.Labels.{all_labels}
use Rattle.control_flow.specs.Measures.{greatest_below}
use Rattle.control_flow.specs.Sizing.{held_at}
use Rattle.control_flow.proofs.Holding.{greatest_held}
use Rattle.control_flow.proofs.graph.Graph.weight_of.Goals as goal

pub returns : goal.returns
returns c level has each are =
    let body = statements c.args.self.now.body in
    let end = c.loop-label-test.false in
    let most = c.loop-label.auto.label-end in
    let count = c.labels-label-end.ensures.count in
    let last : c.loop-label.label ≡ length (all_labels body) = omega (arith, end, most, count) in
    c.loop-label.invariant ∙ ap (greatest_below (λ label. held_at c.args.sizes.now label)) last
    ∙ greatest_held (2 ^ 128 - 1) (omega arith) (length (all_labels body)) (λ label. held_at c.args.sizes.now label) (each level) (has each are)
