use Rattle.std.proofs.Common.{arith, ap, ◌∙◌, ◌≡◌}
use Rattle.std.proofs.lemmas.List.{take_all}
use Rattle.line_text.specs.Buffer.{bytes_in}
use Rattle.report_text.specs.Printed.{row_texts}
use Rattle.report_text.proofs.Spelling.{row_over, rows_sorted}
use Rattle.report_text.proofs.printing.sorted_rows.Goals as goal

pub push_row-requires : goal.push_row-requires
push_row-requires c = row_over _ _ _ _ (omega arith) c.row-item.is c.requires

pub returns : goal.returns
returns c =
    let all : bytes_in c.loop-row.written.items ≡ row_texts c.args.names.now c.args.rows.now = c.loop-row.invariant ∙ ap (λ t. row_texts c.args.names.now t) (take_all _ _ (omega arith)) in
    rows_sorted _ _ _ _ all c.in_ok-sort.ensures.permutation c.in_ok-sort.ensures.sorted
