use Rattle.std.proofs.Common.{◌≡◌, take}
use Rattle.line_text.specs.Buffer.{bytes_in}
use Rattle.report_text.specs.Printed.{row_texts}
use Rattle.report_text.proofs.printing.sorted_rows.Given as goal

abbrev pub invariant-loop-row : goal.invariant-loop-row
invariant-loop-row l = bytes_in l.written.items ≡ row_texts l.names (take l.row-index l.rows)
