use Rattle.std.proofs.Common.{◌∙◌, ap, map, refl}
use Rattle.decision_tree.specs.Plans.{plan_of}
use Rattle.decision_tree.proofs.Lending.{plans_written}
use Rattle.decision_tree.proofs.family.TreeList.items_mut.Goals as goal

pub returns : goal.returns
returns g c = (
  (refl, λ written. plans_written c.self.inside.trees.len c.self.inside.trees.items written c.args.self.now c.self.inside.trees.ok.0 c.self.view_is),
  record { writes_back = tt; value = ap (λ t. map plan_of t) c.deref_mut.ensures.value ∙ c.self.view_is },
)
