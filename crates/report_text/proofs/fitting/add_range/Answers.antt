use Rattle.report_text.proofs.FitLines.{lower_met, made_met, upper_met}
use Rattle.report_text.proofs.fitting.add_range.Goals as goal

pub returns : goal.returns
returns c = λ store fits met.
    let low = rw c.var-variable.ensures at c.plus.ensures.exact in
    let high = rw (c.var-variable.ensures, c.constant.ensures) at c.sub.ensures.exact in
    c.in_ok-add_row-2.ensures store (made_met store _ _ high (upper_met store c.args.place c.requires fits))
    (c.in_ok-add_row.ensures store (made_met store _ _ low (lower_met store c.args.place c.requires fits)) met)
