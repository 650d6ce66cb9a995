use Rattle.std.proofs.Common.{false, IfOk, subst, ◌∙◌}
use Rattle.backward_transfer.specs.AffineShapes.{plans}
use Rattle.control_flow.specs.Transitions.{HasNoHead}
use Rattle.backward_sweeps.specs.Remaking.{AreEndsGiven, AreRemadeFrom, parts_of}
use Rattle.part_trees.specs.Proposed.{until_of}
use Rattle.part_trees.proofs.Making.{same_parts, with_premise}
use Rattle.part_trees.proofs.proposing.until.Goals as goal

pub returns-clause-swept : goal.returns-clause-swept
returns-clause-swept g c =
    let transitions = c.args.transitions.now in
    let own = parts_of c.operands.result in
    subst (λ parts. IfOk c.swept.result (λ trees. AreEndsGiven parts transitions trees × (HasNoHead transitions → AreRemadeFrom 0 false parts transitions trees)))
    (same_parts own (until_of c.args.all (plans c.args.keep.now) (plans c.args.goal.now)) c.operands.ensures.all
    (c.operands.ensures.goal ∙ c.in_ok-claims.ensures.goal) (c.operands.ensures.keep ∙ c.in_ok-claims.ensures.keep))
    (with_premise c.swept.result (λ trees. AreEndsGiven own transitions trees) (λ trees. AreRemadeFrom 0 false own transitions trees) (HasNoHead transitions)
    c.swept.ensures.given c.swept.ensures.remade)
