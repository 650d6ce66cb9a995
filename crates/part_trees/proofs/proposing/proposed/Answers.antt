use Rattle.std.proofs.Common.{IfOk}
use Rattle.backward_sweeps.proofs.Passing.{both_carried}
use Rattle.part_trees.specs.Proposed.{AreKeptFor, AreSweptFor}
use Rattle.part_trees.proofs.proposing.proposed.Goals as goal

pub returns-in-Until-clause-proposed : goal.returns-in-Until-clause-proposed
returns-in-Until-clause-proposed g c =
    rw c.in-Until.is
    (both_carried (λ this that. IfOk c.until.result (λ trees. AreSweptFor c.in-Until.all this that c.args.transitions.now trees)) _ _ _ _
    c.operand-first.ensures c.operand-second.ensures c.until.ensures.swept)

pub returns-in-Weak-clause-proposed : goal.returns-in-Weak-clause-proposed
returns-in-Weak-clause-proposed g c =
    rw c.in-Weak.is
    (both_carried (λ this that. IfOk c.weak.result (λ trees. AreKeptFor c.in-Weak.all this that c.args.transitions.now trees)) _ _ _ _
    c.operand-first.ensures c.operand-second.ensures c.weak.ensures.kept)
