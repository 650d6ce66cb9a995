use Rattle.report_text.proofs.Spelling.{report_printed}
use Rattle.report_text.proofs.printing.print.Goals as goal

pub returns : goal.returns
returns c = report_printed _ _ _ _ _ _ _ _ _ (record {
  empty = c.new-text.ensures.items;
  exact = c.in_ok-push_exact.ensures;
  proved = c.in_ok-push_headed.ensures;
  ranked = c.in_ok-push_ranked.ensures;
  unknown = c.in_ok-push_headed-2.ensures;
  explain = c.in_ok-push_explain.ensures;
  verdict = c.in_ok-push_verdict.ensures;
})
