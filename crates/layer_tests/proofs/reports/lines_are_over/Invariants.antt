use Rattle.std.proofs.Common.{All, take}
use Rattle.report_text.specs.Printed.{IsLineOver}
use Rattle.layer_tests.proofs.reports.lines_are_over.Given as goal

abbrev pub invariant-loop-line : goal.invariant-loop-line
invariant-loop-line l = All (IsLineOver l.names) (take l.line-index l.lines)
