use Rattle.std.proofs.Common.{◌∙◌}
use Rattle.decision_tree.proofs.Gathering.{led_left, way_left, way_starts}
use Rattle.decision_tree.proofs.trail.Trail.up.Goals as goal

pub invariant_of-self : goal.invariant_of-self
invariant_of-self c = led_left c.self.inside.held _ c.self.inside.steps.items _ c.leave.ensures c.self.invariant

pub returns-clause-shortened : goal.returns-clause-shortened
returns-clause-shortened c front row ends =
    way_left c.self.inside.held _ c.self.inside.steps.items _ c.leave.ensures front row (c.self.view_is ∙ ends)

pub returns-clause-start : goal.returns-clause-start
returns-clause-start c none = way_starts c.self.inside.held _ c.self.inside.steps.items _ c.leave.ensures (c.self.view_is ∙ none)
