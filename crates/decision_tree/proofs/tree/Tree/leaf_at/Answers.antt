use Rattle.std.proofs.Common.{rules, ◌≡◌, ◌∙◌, pos, ◌≤ℤ◌, ◌<ℤ◌, arith}
use Rattle.std.proofs.lemmas.Int.{ints}
use Rattle.linear_cons.specs.Functions.{PartsFit, value_at}
use Rattle.decision_tree.specs.Evaluation.{eval}
use Rattle.decision_tree.specs.Plans.{plan_of}
use Rattle.decision_tree.proofs.Ways.{step_below, step_least, step_wide, way_ends}
use Rattle.decision_tree.proofs.tree.Tree.leaf_at.Goals as goal

pub returns-in_err-value-clause-fits : goal.returns-in_err-value-clause-fits
returns-in_err-value-clause-fits g c =
    let before = rw c.in-Node.is at c.loop-at.invariant in
    let wide : PartsFit c.in-Node.row.affine c.args.store.now → ⊥ = rw (← c.deref.ensures) c.in_err-value.ensures.exact in
    (λ ok. absurd (search rules), λ fits. absurd (step_wide c.in-Node.row _ _ c.args.store.now wide (before.1.1 fits)))

pub loop-at-preserved-then-value-lt0 : goal.loop-at-preserved-then-value-lt0
loop-at-preserved-then-value-lt0 g c =
    let before = rw c.in-Node.is at c.loop-at.invariant in
    let fits : PartsFit c.in-Node.row.affine c.args.store.now = rw (← c.deref.ensures) c.in_ok-value.ensures.exact.0 in
    let value = rw c.deref.ensures at c.in_ok-value.ensures.exact.1 in
    let test = c.if-value-lt0.true in
    let below : value_at c.in-Node.row.affine c.args.store.now <ℤ pos 0 = omega (arith, ints) in
    let step = step_below c.in-Node.row (plan_of c.in-Node.yes.value) (plan_of c.in-Node.no.value) c.args.store.now below fits in
    rw c.deref-at.ensures (step.leaf ∙ before.0, (λ rest. before.1.0 (step.fits.0 rest), λ all. step.fits.1 (before.1.1 all)))

pub loop-at-preserved : goal.loop-at-preserved
loop-at-preserved g c =
    let before = rw c.in-Node.is at c.loop-at.invariant in
    let fits : PartsFit c.in-Node.row.affine c.args.store.now = rw (← c.deref.ensures) c.in_ok-value.ensures.exact.0 in
    let value = rw c.deref.ensures at c.in_ok-value.ensures.exact.1 in
    let test = c.if-value-lt0.false in
    let least : pos 0 ≤ℤ value_at c.in-Node.row.affine c.args.store.now = omega (arith, ints) in
    let step = step_least c.in-Node.row (plan_of c.in-Node.yes.value) (plan_of c.in-Node.no.value) c.args.store.now least fits in
    rw c.deref-at-else-value-lt0.ensures (step.leaf ∙ before.0, (λ rest. before.1.0 (step.fits.0 rest), λ all. step.fits.1 (before.1.1 all)))

pub returns : goal.returns
returns g c =
    let same : eval (plan_of c.loop-at.at.now) c.args.store.now ≡ eval (plan_of c.args.self.now) c.args.store.now = c.loop-at.invariant.0 in
    let end = way_ends c.loop-at.at.now c.args.store.now c.in_default.not-Node in
    record { leaf = rw (← same) end.0; fits = (λ ok. c.loop-at.invariant.1.0 end.1, λ fits. search rules); wide = search rules }
