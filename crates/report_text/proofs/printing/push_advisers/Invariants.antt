use Rattle.std.proofs.Common.{◌≡◌, ◌++◌, take}
use Rattle.report_text.specs.Printed.{adviser_lines, ended_lines}
use Rattle.report_text.proofs.printing.push_advisers.Given as goal

abbrev pub invariant-loop-index : goal.invariant-loop-index
invariant-loop-index l = l.text.items ≡ l.fn.text.items ++ ended_lines (adviser_lines 1 (take l.index l.asked))
