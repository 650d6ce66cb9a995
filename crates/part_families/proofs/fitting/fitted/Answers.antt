use Rattle.std.proofs.Common.{◌<◌, ◌^◌, ◌-◌, All, length, sym, ap, subst, ◌∙◌, refl, arith, true≢false}
use Rattle.std.proofs.lemmas.List.{length-set}
use Rattle.std.proofs.lemmas.Bool.{lt-ltb, ltb-true}
use Rattle.decision_tree.specs.declared.reason.Cause.TheVariants.{Given}
use Rattle.decision_tree.specs.declared.tree.Tree.{Top}
use Rattle.decision_tree.specs.Extent.{ComplementsFit, IsTreeOver}
use Rattle.decision_tree.specs.Plans.{leaves_of}
use Rattle.backward_transfer.specs.AffineShapes.{plans, tree_at}
use Rattle.part_families.specs.Fitting.{IsFit}
use Rattle.part_families.proofs.Fit.{fit_at}
use Rattle.part_families.proofs.Printable.{all_of_them, next_fit, plan_there, put_fit, put_kept}
use Rattle.part_families.proofs.fitting.fitted.Goals.{else-is_fit, else-not-leaves, then-is_fit, then-not-leaves}
use Rattle.part_families.proofs.fitting.fitted.Goals as goal

pub loop-label-preserved : goal.loop-label-preserved
loop-label-preserved c =
    let names = length c.args.names.now in
    let items = c.loop-label.trees.items in
    let l = c.loop-label.label in
    let fit = c.loop-label.invariant.0 in
    let kept = c.loop-label.invariant.1 in
    let same = c.loop-label.invariant.2 in
    let low : l < length c.loop-label.trees.items = omega (arith, same, c.loop-label-test.true, c.len-label-end.ensures, c.loop-label.auto.label-end) in
    elim c.if-not-leaves.branch [
      | then-not-leaves w ↦ rw (w.trees-is, w.given.ensures) (
        put_fit items l Given low names fit,
        put_kept items l Given low (plans c.into_vec-trees.result.items) kept,
        length-set items l (Top Given) ∙ same,
        (λ few all. absurd (
            let here : IsFit names (tree_at (plans items) l) =
            subst (λ list. IsFit names (tree_at list l)) (sym (c.loop-label.invariant.3 few all)) (fit_at names (plans c.into_vec-trees.result.items) all l) in
            let this = plan_there items l c.index.result.now low c.index.ensures in
            elim c.if-is_fit.branch [
              | then-is_fit v ↦
                  let that = ap leaves_of (plan_there items l v.index-then-is_fit.result.now low v.index-then-is_fit.ensures) in
                  let few = here.leaves in
                  true≢false (sym (lt-ltb v.leaves.result (2 ^ 64 - 1) (omega (arith, v.leaves.ensures, that, few))) ∙ sym v.value-is ∙ w.if-not-leaves.true)
              | else-is_fit v ↦
                  true≢false
                  (sym (c.is_fit.ensures.fit few (subst (IsTreeOver names) (sym this) here.over) (subst ComplementsFit (sym this) here.complements)) ∙ v.if-is_fit.false)
            ])),
      )
      | else-not-leaves w ↦ elim c.if-is_fit.branch [
        | then-is_fit v ↦ rw w.trees-is (
          next_fit names items l c.index.result.now v.index-then-is_fit.result.now (plan_there items l c.index.result.now low c.index.ensures)
              (plan_there items l v.index-then-is_fit.result.now low v.index-then-is_fit.ensures) (v.if-is_fit.ensures.over refl) (v.if-is_fit.ensures.complements refl)
              (omega (arith, v.leaves.ensures, ltb-true v.leaves.result (2 ^ 64 - 1) (sym v.value-is ∙ w.if-not-leaves.false))) fit,
          kept,
          same,
          c.loop-label.invariant.3,
        )
        | else-is_fit v ↦ absurd (true≢false (sym w.if-not-leaves.false ∙ v.value-is ∙ v.if-is_fit.false))
      ]
    ]

pub returns-clause-fit : goal.returns-clause-fit
returns-clause-fit c = rw c.of.ensures (all_of_them (length c.args.names.now) c.loop-label.trees.items c.loop-label.label
    (omega (arith, c.loop-label.invariant.2, c.loop-label-test.false, c.len-label-end.ensures)) c.loop-label.invariant.0)

pub returns-clause-same : goal.returns-clause-same
returns-clause-same c few all =
    c.of.ensures ∙ c.loop-label.invariant.3 few (subst (All (IsFit (length c.args.names.now))) (sym c.into_vec-trees.ensures) all) ∙ c.into_vec-trees.ensures
