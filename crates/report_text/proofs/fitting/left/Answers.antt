use Rattle.std.proofs.Common.{◌≡◌, List, take, arith, subst, sym, ◌∙◌}
use Rattle.std.proofs.lemmas.List.{take_all}
use Rattle.linear_cons.specs.Rows.{MeetsAll}
use Rattle.report_text.specs.declared.line.Line.{Line}
use Rattle.report_text.specs.Fitting.{AreLeft, none}
use Rattle.report_text.proofs.FitLines.{one_more_left}
use Rattle.report_text.proofs.fitting.left.Goals as goal

pub loop-line-init : goal.loop-line-init
loop-line-init c = rw c.new-left.ensures.items none

pub loop-line-preserved : goal.loop-line-preserved
loop-line-preserved c =
    one_more_left c.args.vars c.items-line-items.result.now c.loop-line.line-index c.line-item.result c.deref.result.now _ _ (omega arith) c.line-item.is
    (λ store ints. subst (MeetsAll store) (sym c.deref.ensures.value) (c.in_ok-ranges.ensures store ints)) c.loop-line.invariant c.in_ok-add_if_met.ensures

pub returns : goal.returns
returns c =
    let all : take c.loop-line.line-index c.items-line-items.result.now ≡ c.args.lines.now = take_all _ _ (omega arith) ∙ c.items-line-items.ensures in
    rw c.of.ensures (subst (λ (t : List Line). AreLeft c.args.vars t c.loop-line.left.items) all c.loop-line.invariant)
