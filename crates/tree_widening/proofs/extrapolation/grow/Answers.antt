use Rattle.std.proofs.Common.{◌≡◌, ap, sym, subst, ◌∙◌}
use Rattle.std.proofs.lemmas.Result.{IfOk-weaker, on_err_weaker}
use Rattle.linear_cons.specs.Rows.{complement}
use Rattle.linear_cons.specs.declared.row.Row.{Row}
use Rattle.linear_cons.proofs.RowLaws.{row_same}
use Rattle.decision_tree.specs.Plans.{branch, plan_of}
use Rattle.decision_tree.specs.declared.tree.Tree.{Tree}
use Rattle.tree_widening.specs.Judging.{claim_of}
use Rattle.tree_widening.specs.Leaves.{first_claim}
use Rattle.tree_widening.specs.Widening.{ExtrapolatedFits, extrapolated}
use Rattle.tree_widening.proofs.Passing.{grown_beside, growing_beside}
use Rattle.tree_widening.proofs.extrapolation.grow.Goals as goal

pub returns-in-Ok-clause-tree : goal.returns-in-Ok-clause-tree
returns-in-Ok-clause-tree g c =
    let raised = g.R.Extrapolates.raised in
    let this = plan_of c.deref-in-Ok.result.now in
    let is = rw c.deref-row.ensures at c.in-Ok.ensures.complement in
    let turned : c.in-Ok.complement ≡ complement c.in-Node.row = row_same c.in-Ok.complement (complement c.in-Node.row) is in
    IfOk-weaker c.extrapolate-in-Ok.result _ _
    (λ made is. is
    ∙ ap (λ (row : Row). extrapolated raised row (first_claim this) (claim_of c.in_ok-first-in-Node.first)) turned
    ∙ ap (λ first. extrapolated raised (complement c.in-Node.row) (first_claim this) first) c.in_ok-first-in-Node.ensures.first
    ∙ sym (grown_beside (plan_of c.args.above.now) c.in-Node.row this (plan_of c.in-Node.no.value) c.args.holds c.args.walk.now.trail (plan_of c.args.new.now)
    (ap (λ (tree : Tree _). plan_of tree) c.in-Node.is
    ∙ ap (λ (tree : Tree _). branch c.in-Node.row (plan_of tree) (plan_of c.in-Node.no.value)) (sym c.deref-in-Ok.ensures)) c.if-holds.false raised))
    c.extrapolate-in-Ok.ensures.tree

pub returns-in-Ok-clause-wide : goal.returns-in-Ok-clause-wide
returns-in-Ok-clause-wide g c =
    let fits = g.R.Extrapolates.raised_fits in
    let this = plan_of c.deref-in-Ok.result.now in
    let is = rw c.deref-row.ensures at c.in-Ok.ensures.complement in
    let turned : c.in-Ok.complement ≡ complement c.in-Node.row = row_same c.in-Ok.complement (complement c.in-Node.row) is in
    on_err_weaker c.extrapolate-in-Ok.result
    (λ wide w is fit. wide w is
    (subst (λ (row : Row). ExtrapolatedFits fits row (first_claim this) (claim_of c.in_ok-first-in-Node.first)) (sym turned)
    (subst (λ first. ExtrapolatedFits fits (complement c.in-Node.row) (first_claim this) first) (sym c.in_ok-first-in-Node.ensures.first)
    (growing_beside (plan_of c.args.above.now) c.in-Node.row this (plan_of c.in-Node.no.value) c.args.holds c.args.walk.now.trail (plan_of c.args.new.now)
    (ap (λ (tree : Tree _). plan_of tree) c.in-Node.is
    ∙ ap (λ (tree : Tree _). branch c.in-Node.row (plan_of tree) (plan_of c.in-Node.no.value)) (sym c.deref-in-Ok.ensures)) c.if-holds.false g.R.PartialEq.eq fits fit))))
    c.extrapolate-in-Ok.ensures.wide
