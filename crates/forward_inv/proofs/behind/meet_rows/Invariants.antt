use Rattle.std.proofs.Common.{ℕ, ◌<◌, length}
use Rattle.step_meaning.specs.Syntax.{statements}
use Rattle.forward_inv.specs.Behind.{MeetsBehind}
use Rattle.control_flow.specs.Invariants.{AreInvariants}
use Rattle.forward_inv.proofs.behind.meet_rows.Given as goal

abbrev pub invariant-loop-label : goal.invariant-loop-label
invariant-loop-label g l =
    AreInvariants g.D.NumDomain.has (length l.graph.names) (statements l.graph.body) l.states
    × ((label : ℕ) → label < l.label → MeetsBehind g.D.NumDomain.has (statements l.graph.body) l.states label)
