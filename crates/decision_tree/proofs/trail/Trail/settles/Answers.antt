use Rattle.std.proofs.Common.{◌∙◌}
use Rattle.decision_tree.proofs.Gathering.{led_tightest, settles_same}
use Rattle.decision_tree.proofs.trail.Trail.settles.Goals as goal

pub returns : goal.returns
returns c =
    let tightest = led_tightest c.self.inside.steps.items c.self.inside.held c.self.invariant in
    rw (← c.self.view_is) (c.settles.ensures ∙ settles_same _ _ c.args.row.now tightest.settling)
