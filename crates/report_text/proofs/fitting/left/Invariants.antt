use Rattle.std.proofs.Common.{take}
use Rattle.report_text.specs.Fitting.{AreLeft}
use Rattle.report_text.proofs.fitting.left.Given as goal

-- so many of the lines so far are left
abbrev pub invariant-loop-line : goal.invariant-loop-line
invariant-loop-line l = AreLeft l.vars (take l.line-index l.line-items) l.left.items
