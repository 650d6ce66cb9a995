use Rattle.std.proofs.Common.{take}
use Rattle.std.specs.List.{AllZip}
use Rattle.line_text.specs.Buffer.{bytes_in}
use Rattle.report_text.specs.Printed.{IsLineText}
use Rattle.report_text.proofs.printing.sorted_lines.Given as goal

abbrev pub invariant-loop-line : goal.invariant-loop-line
invariant-loop-line l = AllZip (λ line text. IsLineText l.names line text) (take l.line-index l.lines) (bytes_in l.texts.items)
