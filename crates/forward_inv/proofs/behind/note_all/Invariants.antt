use Rattle.std.proofs.Common.{length}
use Rattle.step_meaning.specs.Syntax.{statements}
use Rattle.control_flow.specs.Labels.{all_labels}
use Rattle.forward_inv.specs.Behind.{AreEntering}
use Rattle.forward_inv.proofs.Entering.{IsBelow}
use Rattle.forward_inv.proofs.behind.note_all.Given as goal

abbrev pub invariant-loop-label : goal.invariant-loop-label
invariant-loop-label l =
    AreEntering (IsBelow (statements l.graph.body) l.label) (length (all_labels (statements l.graph.body))) l.all
