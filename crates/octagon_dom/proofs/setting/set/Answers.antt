use Rattle.std.proofs.lemmas.Grind.{common_steps}
use Rattle.std.proofs.Common.{inl, inr, subst, arith}
use Rattle.octagon_dom.specs.Terms.{AreTermsBelow}
use Rattle.octagon_dom.proofs.Moved.{step_two}
use Rattle.octagon_dom.proofs.PlainRows.{unit_octagonal}
use Rattle.octagon_dom.proofs.setting.set.Goals as goal

pub returns-in-Two-clause-moves : goal.returns-in-Two-clause-moves
returns-in-Two-clause-moves c bounds step = elim c.in-Two.is [
  | inl two ↦ absurd (step_two c.args.place c.args.value.now step two.0 two.1
      (subst (AreTermsBelow 16 c.args.value.now.affine) two.2 c.terms_of.ensures))
  | inr other ↦ absurd (subst (AreTermsBelow 16 c.args.value.now.affine) other c.terms_of.ensures
      (unit_octagonal c.args.value.now.affine c.args.place step.unit step.alone))
]

pub returns-in-Two-clause-moderate : goal.returns-in-Two-clause-moderate
returns-in-Two-clause-moderate c bounds step = elim c.in-Two.is [
  | inl two ↦ absurd (step_two c.args.place c.args.value.now step two.0 two.1
      (subst (AreTermsBelow 16 c.args.value.now.affine) two.2 c.terms_of.ensures))
  | inr other ↦ absurd (subst (AreTermsBelow 16 c.args.value.now.affine) other c.terms_of.ensures
      (unit_octagonal c.args.value.now.affine c.args.place step.unit step.alone))
]

pub returns-in-One-clause-sets : goal.returns-in-One-clause-sets
returns-in-One-clause-sets c = grind (arith, common_steps)

pub returns-in-Two-clause-sets : goal.returns-in-Two-clause-sets
returns-in-Two-clause-sets c = grind (arith, common_steps)
