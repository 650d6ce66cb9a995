use Rattle.std.proofs.Common.{subst, sym, ◌∙◌}
use Rattle.decision_tree.specs.Plans.{plan_of}
use Rattle.decision_tree.specs.declared.tree.Tree.{Tree}
use Rattle.tree_widening.specs.Widening.{LeftFits}
use Rattle.tree_widening.proofs.Passing.{in_any_case, turned}
use Rattle.tree_widening.proofs.extrapolation.+first_left.Goals as goal

pub returns-in_err-turn-in-None-clause-wide : goal.returns-in_err-turn-in-None-clause-wide
returns-in_err-turn-in-None-clause-wide g t c =
    let same = g.R.PartialEq.eq in
    let way = c.args.walk.now.trail in
    in_any_case c.from_residual-in_err-turn-in-None.result _ (λ w is fit.
    c.in_err-turn-in-None.ensures.wide w is way c.in-Node.row (c.in_ok-first-in-None.ensures.trail ∙ c.in_ok-down-in-None.ensures.down)
    (turned same (λ end. Unit {0}) way c.in-Node.row (plan_of c.in-Node.yes.value) (plan_of c.in-Node.no.value) (sym c.settles.ensures ∙ c.in-None.is)
    (subst (λ (tree : Tree _). LeftFits same way (plan_of tree)) c.in-Node.is fit)))
