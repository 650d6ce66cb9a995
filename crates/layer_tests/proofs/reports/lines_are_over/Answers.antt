use Rattle.std.proofs.Common.{refl, arith}
use Rattle.linear_solve.proofs.Lists.{all_end, all_more}
use Rattle.report_text.specs.Printed.{IsLineOver}
use Rattle.layer_tests.proofs.reports.lines_are_over.Goals as goal

pub loop-line-preserved : goal.loop-line-preserved
loop-line-preserved c = all_more (IsLineOver c.args.names.now) _ _ _ (omega arith) c.line-item.is c.loop-line.invariant (c.if-not-is_line_over.ensures refl)

pub returns : goal.returns
returns c = λ is. all_end (IsLineOver c.args.names.now) _ _ (omega arith) c.loop-line.invariant
