use Rattle.std.proofs.lemmas.Grind.{common_steps}
use Rattle.std.proofs.Common.{◌≡◌, suc, ◌-◌, ◌&&◌, subst, sym, ◌∙◌, arith}
use Rattle.backward_transfer.specs.AffineShapes.{plans}
use Rattle.backward_sweeps.specs.Remaking.{AreRemadeFrom, parts_of}
use Rattle.backward_sweeps.proofs.pass.follow.Goals as goal

pub loop-label-preserved-then-branch : goal.loop-label-preserved-then-branch
loop-label-preserved-then-branch c =
    let some = c.loop-label-test.true in
    let same : c.loop-label.label ≡ suc (c.loop-label.label - 1) = omega (arith, some) in (
      c.in_ok-all.ensures.labels ∙ c.loop-label.invariant.0,
      (λ label below given. c.in_ok-all.ensures.given label below given ∙ c.loop-label.invariant.1 label below given),
      subst (λ made. AreRemadeFrom (c.loop-label.label - 1) (made && c.loop-label.all) (parts_of c.args.operands.now) c.args.transitions.now (plans c.remake.new.trees)) c.if-branch.true
          (c.in_ok-all.ensures.remade c.loop-label.all
          (subst (λ n. AreRemadeFrom n c.loop-label.all (parts_of c.args.operands.now) c.args.transitions.now (plans c.loop-label.trees)) same c.loop-label.invariant.2)),
    )

pub loop-label-preserved-else-branch : goal.loop-label-preserved-else-branch
loop-label-preserved-else-branch c =
    let some = c.loop-label-test.true in
    let same : c.loop-label.label ≡ suc (c.loop-label.label - 1) = omega (arith, some) in (
      c.in_ok-all.ensures.labels ∙ c.loop-label.invariant.0,
      (λ label below given. c.in_ok-all.ensures.given label below given ∙ c.loop-label.invariant.1 label below given),
      subst (λ made. AreRemadeFrom (c.loop-label.label - 1) made (parts_of c.args.operands.now) c.args.transitions.now (plans c.remake.new.trees)) (sym c.if-branch.false)
          (subst (λ made. AreRemadeFrom (c.loop-label.label - 1) (made && c.loop-label.all) (parts_of c.args.operands.now) c.args.transitions.now (plans c.remake.new.trees)) c.if-branch.false
          (c.in_ok-all.ensures.remade c.loop-label.all
          (subst (λ n. AreRemadeFrom n c.loop-label.all (parts_of c.args.operands.now) c.args.transitions.now (plans c.loop-label.trees)) same c.loop-label.invariant.2))),
    )

pub remake-requires-clause-open : goal.remake-requires-clause-open
remake-requires-clause-open c = grind (arith, common_steps)
