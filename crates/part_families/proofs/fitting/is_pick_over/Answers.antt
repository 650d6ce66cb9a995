use Rattle.std.proofs.Common.{◌≡◌, length, ap, subst, sym, ◌∙◌}
use Rattle.linear_cons.specs.Functions.{IsOver}
use Rattle.decision_tree.specs.Extent.{PickIs}
use Rattle.decision_tree.specs.declared.reason.Pick.TheVariants.{Value}
use Rattle.decision_tree.specs.declared.reason.Why.TheVariants.{Step}
use Rattle.part_families.proofs.Fit.{over_names}
use Rattle.part_families.proofs.fitting.is_pick_over.Goals as goal

pub returns-in-Step-Value-clause-fit : goal.returns-in-Step-Value-clause-fit
returns-in-Step-Value-clause-fit c few over =
    let names = c.args.names.now in
    let field : c.in-Step-Value.field-0 ≡ Value c.in-Step-Value.value = rw c.in-Step-Value.is at c.in-Step-Value.field-0-is in
    let is : c.args.why.now ≡ Step (Value c.in-Step-Value.value) = sym c.why-reason.ensures ∙ c.in-Step-Value.is ∙ ap Step field in
    c.is_over.ensures.1 (over_names names c.in-Step-Value.value few (subst (PickIs (IsOver (length names))) is over))
