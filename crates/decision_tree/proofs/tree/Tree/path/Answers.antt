use Rattle.decision_tree.specs.Plans.{plan_of}
use Rattle.decision_tree.proofs.Paths.{found_leads}
use Rattle.decision_tree.proofs.tree.Tree.path.Goals as goal

pub returns-clause-rows : goal.returns-clause-rows
returns-clause-rows g c =
    let lead = found_leads (plan_of c.args.self.now) c.args.leaf c.seek.new.left c.new-sides.result.items c.seek.new.sides.items c.in_ok-seek.field-0 c.new-sides.ensures.items c.requires c.in_ok-seek.ensures in
    rw (← lead.path) c.rows_along.ensures.rows

pub returns-clause-fits : goal.returns-clause-fits
returns-clause-fits g c =
    let lead = found_leads (plan_of c.args.self.now) c.args.leaf c.seek.new.left c.new-sides.result.items c.seek.new.sides.items c.in_ok-seek.field-0 c.new-sides.ensures.items c.requires c.in_ok-seek.ensures in
    rw (← lead.complements) c.rows_along.ensures.fits

pub returns-clause-wide : goal.returns-clause-wide
returns-clause-wide g c =
    let lead = found_leads (plan_of c.args.self.now) c.args.leaf c.seek.new.left c.new-sides.result.items c.seek.new.sides.items c.in_ok-seek.field-0 c.new-sides.ensures.items c.requires c.in_ok-seek.ensures in
    rw (← lead.complements) c.rows_along.ensures.wide
