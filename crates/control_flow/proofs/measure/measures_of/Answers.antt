use Rattle.std.proofs.Common.{◌≡◌, suc, ◌+◌, ◌<◌, max, length, ap, ◌∙◌, arith}
use Rattle.step_meaning.specs.Syntax.{statements}
use Rattle.control_flow.specs.Growth.{row_size}
use Rattle.control_flow.specs.Labels.{action_at, all_labels}
use Rattle.control_flow.specs.Measures.{greatest_below}
use Rattle.control_flow.specs.Sizing.{held, held_at, leaves_at}
use Rattle.control_flow.specs.Tables.{action_of}
use Rattle.control_flow.proofs.Measuring.{is_placed, length_more, one_more}
use Rattle.control_flow.proofs.Readers.{node_at, table_length}
use Rattle.control_flow.proofs.measure.measures_of.Goals as goal

pub measure_of-requires : goal.measure_of-requires
measure_of-requires c =
    let body = statements c.args.program.now.body in
    let valid = c.args.program.now.valid in
    let count = table_length c.args.nodes.now body c.requires in
    let test = c.loop-label-test.true in
    let low : c.loop-label.label < length (all_labels body) = omega (arith, count, test) in
    is_placed (length c.args.program.now.names) valid.few body valid.well_sorted c.loop-label.label low (action_of c.index-nodes-label.result)
    (ap action_of c.index-nodes-label.is ∙ node_at c.args.nodes.now body c.requires c.loop-label.label c.index-nodes-label.result low)

pub loop-label-preserved : goal.loop-label-preserved
loop-label-preserved c =
    let body = statements c.args.program.now.body in
    let label = c.loop-label.label in
    let count = table_length c.args.nodes.now body c.requires in
    let test = c.loop-label-test.true in
    let low : label < length (all_labels body) = omega (arith, count, test) in
    let done : action_of c.index-nodes-label.result ≡ action_at body label =
    ap action_of c.index-nodes-label.is ∙ node_at c.args.nodes.now body c.requires label c.index-nodes-label.result low in
    let one : suc label ≡ label + 1 = omega arith in
    let items = c.in_ok-push.ensures.items in (
      ap length items ∙ length_more c.loop-label.leaves.items c.in_ok-measure.measure.leaves ∙ ap (λ n. n + 1) c.loop-label.invariant.0,
      λ l less. ap (λ list. held_at list l) items
          ∙ one_more c.loop-label.leaves.items c.in_ok-measure.measure.leaves label (λ l. held (leaves_at (action_at body l))) c.loop-label.invariant.0
          c.loop-label.invariant.1 (c.in_ok-measure.ensures.leaves ∙ ap (λ a. held (leaves_at a)) done) l less,
      c.max-greatest.ensures ∙ ap (λ t. max t c.in_ok-measure.measure.greatest) c.loop-label.invariant.2
          ∙ ap (max (greatest_below (λ l. row_size (action_at body l)) label)) (c.in_ok-measure.ensures.greatest ∙ ap row_size done)
          ∙ ap (greatest_below (λ l. row_size (action_at body l))) one,
    )

pub returns-clause-leaves : goal.returns-clause-leaves
returns-clause-leaves c =
    let body = statements c.args.program.now.body in
    let count = table_length c.args.nodes.now body c.requires in
    let end = c.loop-label-test.false in
    let most = c.loop-label.auto.label-end in
    let last : c.loop-label.label ≡ length (all_labels body) = omega (arith, count, end, most) in record {
      count = c.loop-label.invariant.0 ∙ last;
      each = λ l low. c.loop-label.invariant.1 l (omega (arith, low, last));
    }

pub returns-clause-greatest : goal.returns-clause-greatest
returns-clause-greatest c =
    let body = statements c.args.program.now.body in
    let count = table_length c.args.nodes.now body c.requires in
    let end = c.loop-label-test.false in
    let most = c.loop-label.auto.label-end in
    let last : c.loop-label.label ≡ length (all_labels body) = omega (arith, count, end, most) in
    c.loop-label.invariant.2 ∙ ap (greatest_below (λ l. row_size (action_at body l))) last
