use Rattle.std.proofs.Common.{length, subst, ◌∙◌}
use Rattle.decision_tree.specs.Extent.{ComplementsFit, IsTreeOver}
use Rattle.decision_tree.specs.declared.affine_rank.AffineRank.{AffineRank}
use Rattle.decision_tree.specs.declared.tree.Tree.{Tree}
use Rattle.decision_tree.specs.Plans.{plan_of}
use Rattle.part_families.proofs.Fit.{over_names}
use Rattle.part_families.proofs.fitting.+is_fit.Goals.{else-has_complement, else-is_over-2, then-has_complement, then-is_over-2}
use Rattle.part_families.proofs.fitting.+is_fit.Goals as goal

pub returns-else-is_over-clause-fit : goal.returns-else-is_over-clause-fit
returns-else-is_over-clause-fit t c few over complements =
    let names = c.args.names.now in
    let own = subst (λ (tree : Tree AffineRank). IsTreeOver (length names) (plan_of tree)) c.in-Leaf.is over in
    c.is_over.ensures.1 (rw c.deref-rank.ensures (over_names names c.in-Leaf.rank.value few own.0))

pub returns-else-is_fit-clause-fit : goal.returns-else-is_fit-clause-fit
returns-else-is_fit-clause-fit t c few over complements =
    let names = c.args.names.now in
    let own = subst (λ (tree : Tree AffineRank). IsTreeOver (length names) (plan_of tree)) c.in-Node.is over in
    let turned = subst (λ (tree : Tree AffineRank). ComplementsFit (plan_of tree)) c.in-Node.is complements in
    elim c.if-has_complement.branch [
      | then-has_complement w ↦ w.value-is ∙ w.is_fit.ensures.fit few (rw w.deref.ensures own.1) (rw w.deref.ensures turned.1)
      | else-has_complement w ↦ w.value-is ∙ (elim c.if-is_over-2.branch [
        | then-is_over-2 u ↦ u.value-is ∙ u.has_complement.ensures.1 turned.0
        | else-is_over-2 u ↦ u.value-is ∙ c.is_over-in-Node.ensures.1 (rw c.deref-function.ensures (over_names names c.in-Node.row.affine few own.0))
      ])
    ]
