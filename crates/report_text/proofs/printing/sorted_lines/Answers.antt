use Rattle.std.proofs.Common.{arith, subst, List}
use Rattle.std.specs.List.{AllZip}
use Rattle.std.proofs.lemmas.List.{take_all}
use Rattle.report_text.specs.declared.line.Line.{Line}
use Rattle.line_text.specs.Buffer.{bytes_in}
use Rattle.report_text.specs.Printed.{IsLineText}
use Rattle.report_text.proofs.Spelling.{line_texts_more, lines_sorted}
use Rattle.report_text.proofs.printing.sorted_lines.Goals as goal

pub loop-line-preserved : goal.loop-line-preserved
loop-line-preserved c = line_texts_more _ _ _ c.line-item.result _ _ _ (omega arith) c.line-item.is c.loop-line.invariant c.in_ok-push.ensures.items c.in_ok-text.ensures

pub returns : goal.returns
returns c =
    let all : AllZip (λ line text. IsLineText c.args.names.now line text) c.args.lines.now (bytes_in c.loop-line.texts.items) = subst (λ (t : List Line). AllZip (λ line text. IsLineText c.args.names.now line text) t (bytes_in c.loop-line.texts.items)) (take_all _ _ (omega arith)) c.loop-line.invariant in
    lines_sorted _ _ _ _ all c.in_ok-sort.ensures.permutation c.in_ok-sort.ensures.sorted
