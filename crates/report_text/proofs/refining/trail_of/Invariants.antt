use Rattle.std.proofs.Common.{◌≡◌, take}
use Rattle.report_text.proofs.refining.trail_of.Given as goal

abbrev pub invariant-loop-row : goal.invariant-loop-row
invariant-loop-row l = l.trail ≡ take l.row-index l.rows
