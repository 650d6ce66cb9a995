use Rattle.std.proofs.Common.{subst, sym, ◌∙◌}
use Rattle.decision_tree.specs.Plans.{plan_of}
use Rattle.decision_tree.specs.declared.tree.Tree.{Tree}
use Rattle.tree_unify.specs.Shapes.{TrimWithFits}
use Rattle.tree_widening.specs.Widening.{ExceedFits}
use Rattle.tree_widening.proofs.Passing.{in_any_case, turned}
use Rattle.tree_widening.proofs.against.+tells_against.Goals as goal

pub returns-in_err-turn-in-None-clause-wide : goal.returns-in_err-turn-in-None-clause-wide
returns-in_err-turn-in-None-clause-wide g t c =
    let same = g.R.PartialEq.eq in
    let way = c.args.walk.now.trail in
    in_any_case c.from_residual-in_err-turn-in-None.result _ (λ w is fit.
    c.in_err-turn-in-None.ensures.wide w is way c.in-Node.row (c.in_ok-tells_against-in-None.ensures.trail ∙ c.in_ok-down-in-None.ensures.down)
    (turned same (ExceedFits g.R.Rank.greater_fits c.args.rank.now) way c.in-Node.row (plan_of c.in-Node.yes.value) (plan_of c.in-Node.no.value) (sym c.settles.ensures ∙ c.in-None.is)
    (subst (λ (tree : Tree _). TrimWithFits same (ExceedFits g.R.Rank.greater_fits c.args.rank.now) way (plan_of tree)) c.in-Node.is fit)))
