use Rattle.std.proofs.Common.{◌∙◌, ap, refl, subst, sym, arith}
use Rattle.std.proofs.lemmas.Grind.{common_steps}
use Rattle.linear_cons.specs.Functions.{NumbersFit, complement_of}
use Rattle.linear_cons.specs.declared.row.Row.{Row}
use Rattle.decision_tree.specs.Trails.{way_of}
use Rattle.decision_tree.proofs.Gathering.{last_row, last_split, led_entered, led_left, way_goes, way_left, way_turned}
use Rattle.decision_tree.proofs.trail.Trail.turn.Goals as goal

pub returns-in_err-complement-clause-wide : goal.returns-in_err-complement-clause-wide
returns-in_err-complement-clause-wide c w is front row ends fits =
    let split = last_split c.self.inside.steps.items c.in-Some.step.now (rw c.deref.ensures.value at c.in-Some.ensures.value) in
    let last = last_row c.self.inside.steps.items split.0 c.in-Some.step.now front row split.1 (c.self.view_is ∙ ends) in
    let impossible = c.in_err-complement.ensures.fits.1 (subst (λ (t : Row). NumbersFit (complement_of t.affine)) (sym last.1) fits) in
    absurd (cc)

pub invariant_of-self : goal.invariant_of-self
invariant_of-self c =
    let left = led_left c.self.inside.held _ c.self.inside.steps.items _ c.leave.ensures c.self.invariant in
    rw (c.in_err-enter.ensures.stays.0, c.in_err-enter.ensures.stays.1) left

pub returns-in_err-enter-clause-shortened : goal.returns-in_err-enter-clause-shortened
returns-in_err-enter-clause-shortened c e is front row ends =
    ap way_of c.in_err-enter.ensures.stays.1
    ∙ way_left c.self.inside.held _ c.self.inside.steps.items _ c.leave.ensures front row (c.self.view_is ∙ ends)

pub invariant_of-self-2 : goal.invariant_of-self-2
invariant_of-self-2 c =
    let left = led_left c.self.inside.held _ c.self.inside.steps.items _ c.leave.ensures c.self.invariant in
    led_entered _ _ _ _ c.in_ok-complement.complement c.in_ok-enter.ensures.places c.in_ok-enter.ensures.entered left

pub returns-clause-turned : goal.returns-clause-turned
returns-clause-turned c front row ends =
    let split = last_split c.self.inside.steps.items c.in-Some.step.now (rw c.deref.ensures.value at c.in-Some.ensures.value) in
    way_turned c.self.inside.held _ _ c.self.inside.steps.items _ _ split.0 c.in-Some.step.now c.in_ok-complement.complement split.1 c.leave.ensures c.in_ok-enter.ensures.entered c.in_ok-complement.ensures.complement front row (c.self.view_is ∙ ends)

pub returns-clause-fits : goal.returns-clause-fits
returns-clause-fits c front row ends =
    let split = last_split c.self.inside.steps.items c.in-Some.step.now (rw c.deref.ensures.value at c.in-Some.ensures.value) in
    let last = last_row c.self.inside.steps.items split.0 c.in-Some.step.now front row split.1 (c.self.view_is ∙ ends) in
    subst (λ (t : Row). NumbersFit (complement_of t.affine)) last.1 (c.in_ok-complement.ensures.fits.0 refl)

pub returns-in_err-enter-clause-start : goal.returns-in_err-enter-clause-start
returns-in_err-enter-clause-start c none =
    let split = last_split c.self.inside.steps.items c.in-Some.step.now (rw c.deref.ensures.value at c.in-Some.ensures.value) in
    absurd (way_goes c.self.inside.steps.items split.0 c.in-Some.step.now split.1 (c.self.view_is ∙ none))

pub returns-clause-start : goal.returns-clause-start
returns-clause-start c none =
    let split = last_split c.self.inside.steps.items c.in-Some.step.now (rw c.deref.ensures.value at c.in-Some.ensures.value) in
    absurd (way_goes c.self.inside.steps.items split.0 c.in-Some.step.now split.1 (c.self.view_is ∙ none))

pub returns-in_default : goal.returns-in_default
returns-in_default c = grind (arith, common_steps)
