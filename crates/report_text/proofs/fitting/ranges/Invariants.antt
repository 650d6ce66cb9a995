use Rattle.std.proofs.Common.{ℤ, List}
use Rattle.linear_cons.specs.Rows.{MeetsAll}
use Rattle.int_fit.specs.Fitting.{AreInts}
use Rattle.report_text.proofs.fitting.ranges.Given as goal

abbrev pub invariant-loop-place : goal.invariant-loop-place
invariant-loop-place l = (store : List ℤ) → AreInts l.vars store → MeetsAll store l.rows.items
