use Rattle.std.proofs.Common.{◌≡◌, ◌++◌, take}
use Rattle.report_text.proofs.fitting.is_met_nowhere.Given as goal

abbrev pub invariant-loop-row : goal.invariant-loop-row
invariant-loop-row l = l.trail ≡ l.rows ++ take l.row-index l.ranges
