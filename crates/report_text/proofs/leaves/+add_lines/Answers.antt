use Rattle.report_text.proofs.Walking.{came_back, node_lines}
use Rattle.decision_tree.specs.Plans.{plan_of}
use Rattle.report_text.proofs.leaves.+add_lines.Goals as goal

pub returns-in_ok-add_lines-in-Node-2-clause-trail : goal.returns-in_ok-add_lines-in-Node-2-clause-trail
returns-in_ok-add_lines-in-Node-2-clause-trail g t c =
    came_back _ _ _ _ _ _ _ c.in_ok-down-in-Node.ensures.down c.in_ok-add_lines-in-Node.ensures.trail c.in_ok-turn-in-Node.ensures c.in_ok-add_lines-in-Node-2.ensures.trail c.up.ensures.shortened

pub returns-in_ok-add_lines-in-Node-2-clause-added : goal.returns-in_ok-add_lines-in-Node-2-clause-added
returns-in_ok-add_lines-in-Node-2-clause-added g t c =
    let here = rw c.deref.ensures at c.in_ok-add_lines-in-Node.ensures.added in
    let there = rw c.deref-in-Node.ensures at c.in_ok-add_lines-in-Node-2.ensures.added in
    rw c.in-Node.is (node_lines (g.R.Claims.claim_of c.args.top.now) _ _ _ _ _ (plan_of c.in-Node.yes.value) (plan_of c.in-Node.no.value) _ _ _ c.in_ok-down-in-Node.ensures.down c.in_ok-add_lines-in-Node.ensures.trail c.in_ok-turn-in-Node.ensures here there)
