use Rattle.std.proofs.Common.{◌≡◌, List, take, arith, subst, ◌∙◌}
use Rattle.std.proofs.lemmas.List.{take_all}
use Rattle.decision_tree.specs.Plans.{plan_of}
use Rattle.report_text.specs.declared.line.Line.{Line}
use Rattle.report_text.specs.Ranked.{AreRefined, done}
use Rattle.report_text.proofs.StandIns.{more_refined}
use Rattle.report_text.proofs.refining.refined.Goals as goal

pub loop-line-init : goal.loop-line-init
loop-line-init c = rw c.new-lines.ensures.items done

pub loop-line-preserved : goal.loop-line-preserved
loop-line-preserved c =
    more_refined (plan_of c.args.ranked.now) c.items-line-items.result.now c.loop-line.line-index c.line-item.result _ _ (omega arith) c.line-item.is
    c.loop-line.invariant c.in_ok-refine.ensures

pub returns : goal.returns
returns c =
    let all : take c.loop-line.line-index c.items-line-items.result.now ≡ c.args.unclaimed.now = take_all _ _ (omega arith) ∙ c.items-line-items.ensures in
    rw c.of.ensures (subst (λ (t : List Line). AreRefined (plan_of c.args.ranked.now) t c.loop-line.lines.items) all c.loop-line.invariant)
