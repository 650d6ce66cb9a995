use Rattle.std.proofs.Common.{◌≡◌, length}
use Rattle.backward_transfer.specs.AffineShapes.{plans}
use Rattle.control_flow.specs.Transitions.{is_idle}
use Rattle.backward_sweeps.specs.Remaking.{AreKept}
use Rattle.backward_sweeps.proofs.sweep.Sweeps.take_all.Given as goal

-- the trees stay where nothing is done
abbrev pub invariant-loop-label : goal.invariant-loop-label
invariant-loop-label g l =
    (length l.trees ≡ length l.initial.trees)
    × AreKept is_idle l.self.transitions.now (plans l.initial.trees) (plans l.trees)
