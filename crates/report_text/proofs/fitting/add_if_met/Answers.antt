use Rattle.std.proofs.Common.{◌≡◌, ◌∙◌, inr, refl, rules}
use Rattle.report_text.proofs.FitLines.{copy_added}
use Rattle.report_text.proofs.fitting.add_if_met.Goals as goal

pub returns-then-branch : goal.returns-then-branch
returns-then-branch c = inr (refl, rw c.items.ensures at (c.in_ok-is_met_nowhere.ensures c.if-branch.true))

pub returns : goal.returns
returns c =
    let copied : c.in_ok-to_vec.field-0.items ≡ c.items-2.result.now = search rules in
    copy_added c.args.line.now c.args.ranges.now _ _ _ (c.of-rows.ensures ∙ copied ∙ c.items-2.ensures) c.in_ok-push.ensures.items
