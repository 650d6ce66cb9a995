use Rattle.std.proofs.Common.{arith}
use Rattle.report_text.proofs.Spelling.{lines_more}
use Rattle.report_text.proofs.printing.push_lines.Goals as goal

pub loop-line-preserved : goal.loop-line-preserved
loop-line-preserved c =
    let step = rw c.deref.ensures.value at c.in_ok-push_ended.ensures in
    lines_more _ _ _ _ _ _ (omega arith) c.line-item.is c.loop-line.invariant step
