use Rattle.std.proofs.Common.{◌≡◌, ◌++◌, take}
use Rattle.line_text.specs.Buffer.{bytes_in}
use Rattle.report_text.specs.Printed.{ended_lines}
use Rattle.report_text.proofs.printing.push_lines.Given as goal

abbrev pub invariant-loop-line : goal.invariant-loop-line
invariant-loop-line l = l.text.items ≡ l.fn.text.items ++ ended_lines (bytes_in (take l.line-index l.lines))
