use Rattle.decision_tree.proofs.Gathering.{led_tightest}
use Rattle.decision_tree.proofs.trail.Trail.rows.Goals as goal

pub returns : goal.returns
returns c = rw (← c.self.view_is, c.rows.ensures) (led_tightest c.self.inside.steps.items c.self.inside.held c.self.invariant)
