use Rattle.std.proofs.Common.{not, All, sym, subst}
use Rattle.std.proofs.lemmas.List.Elements.{All-filter}
use Rattle.decision_tree.specs.Plans.{plan_of}
use Rattle.report_text.specs.declared.line.Line.{Line}
use Rattle.report_text.specs.Leaves.{is_unknown}
use Rattle.report_text.specs.Printed.{IsLineOver}
use Rattle.report_text.proofs.Over.{refined_over, tree_lines_over}
use Rattle.function_top.proofs.Over.{exact_over}
use Rattle.function_top.proofs.report.shown.Goals as goal

pub returns-clause-over : goal.returns-clause-over
returns-clause-over c =
    let names = c.args.names.now in
    let few = c.requires.few in
    let ranked = plan_of c.args.found.now.ranked in
    let lines = c.in_ok-lines.field-0 in
    let all = tree_lines_over names few c.args.found.now.claims (plan_of c.args.found.now.cover) lines c.requires.printable.cover.over c.in_ok-lines.ensures in
    let open_over : All (IsLineOver names) c.in_ok-proved.open =
    subst (All (IsLineOver names)) (sym c.in_ok-proved.ensures.nothing) (All-filter (λ (line : Line). is_unknown line.claim) (IsLineOver names) lines all) in
    let others = c.in_ok-refined.field-0 in
    let rest : All (IsLineOver names) others = refined_over names few ranked c.requires.printable.ranked.over c.in_ok-refined.ensures open_over in
    record {
      exact = exact_over names few c.args.found.now.exact c.in_ok-header.header c.in_ok-header.exact c.requires.printable.exact c.in_ok-header.ensures;
      proved = subst (All (IsLineOver names)) (sym c.in_ok-proved.ensures.claiming)
          (All-filter (λ (line : Line). not (is_unknown line.claim)) (IsLineOver names) lines all);
      ranked = subst (All (IsLineOver names)) (sym c.in_ok-ranked.ensures.claiming)
          (All-filter (λ (line : Line). not (is_unknown line.claim)) (IsLineOver names) others rest);
      unknown = subst (All (IsLineOver names)) (sym c.in_ok-ranked.ensures.nothing)
          (All-filter (λ (line : Line). is_unknown line.claim) (IsLineOver names) others rest);
    }

pub lines-requires-clause-constants : goal.lines-requires-clause-constants
lines-requires-clause-constants c = λ is. absurd (c.requires.printable.claims is)
