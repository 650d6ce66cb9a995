use Rattle.call_meaning.specs.Tables.{commands}
use Rattle.call_inline.specs.Laws.Standing.{AreIdleCalls}
use Rattle.call_inline.proofs.layout.has_idle_calls_alone.Given as goal

-- where the statements that are left are such calls, all are
abbrev pub invariant-loop-left : goal.invariant-loop-left
invariant-loop-left l = AreIdleCalls l.idle (commands l.left) → AreIdleCalls l.idle (commands l.block)
