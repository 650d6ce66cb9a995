use Rattle.std.proofs.Common.{Some, ap, refl, sym, ◌∙◌}
use Rattle.std.proofs.lemmas.Bool.{false≢true}
use Rattle.std.proofs.lemmas.Option.{same_Some}
use Rattle.decision_tree.specs.Plans.{plan_of}
use Rattle.tree_widening.proofs.Passing.{begins_behind, begins_beside}
use Rattle.tree_widening.proofs.newer.beginnings.Goals as goal

pub returns-in-Some-true-clause-yes_side : goal.returns-in-Some-true-clause-yes_side
returns-in-Some-true-clause-yes_side g c =
    let settled = sym c.settles.ensures ∙ c.in-Some-true.is ∙ ap (λ t. Some t) c.in-Some-true.field-0-test in
    begins_behind c.args.trail.now c.args.row.now (plan_of c.beginning-next.result.now) (plan_of c.args.rest.now) (plan_of c.args.new.now)
    (λ opposed. false≢true (same_Some _ _ (sym opposed ∙ settled))) c.beginning-next.ensures c.requires

pub returns-in-Some-true-clause-no_side : goal.returns-in-Some-true-clause-no_side
returns-in-Some-true-clause-no_side g c = refl

pub returns-in-Some-false-clause-yes_side : goal.returns-in-Some-false-clause-yes_side
returns-in-Some-false-clause-yes_side g c = refl

pub returns-in-Some-false-clause-no_side : goal.returns-in-Some-false-clause-no_side
returns-in-Some-false-clause-no_side g c =
    let settled = sym c.settles.ensures ∙ c.in-Some-false.is ∙ ap (λ t. Some t) c.in-Some-false.field-0-test in
    begins_beside c.args.trail.now c.args.row.now (plan_of c.beginning-next.result.now) (plan_of c.args.rest.now) (plan_of c.args.new.now)
    c.has_sixteen_places.ensures (λ told. false≢true (same_Some _ _ (sym settled ∙ told))) c.beginning-next.ensures c.requires

pub returns-in-None-clause-yes_side : goal.returns-in-None-clause-yes_side
returns-in-None-clause-yes_side g c =
    let settled = sym c.settles.ensures ∙ c.in-None.is in
    begins_behind c.args.trail.now c.args.row.now (plan_of c.beginning-next.result.now) (plan_of c.args.rest.now) (plan_of c.args.new.now)
    (λ opposed. let wrong = sym opposed ∙ settled in absurd (cc)) c.beginning-next.ensures c.requires

pub returns-in-None-clause-no_side : goal.returns-in-None-clause-no_side
returns-in-None-clause-no_side g c =
    let settled = sym c.settles.ensures ∙ c.in-None.is in
    begins_beside c.args.trail.now c.args.row.now (plan_of c.beginning-next.result.now) (plan_of c.args.rest.now) (plan_of c.args.new.now)
    c.has_sixteen_places.ensures (λ told. let wrong = sym told ∙ settled in absurd (cc)) c.beginning-next.ensures c.requires
