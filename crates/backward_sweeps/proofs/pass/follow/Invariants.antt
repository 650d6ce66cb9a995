use Rattle.std.proofs.Common.{◌≡◌, length}
use Rattle.backward_transfer.specs.AffineShapes.{plans}
use Rattle.control_flow.specs.Transitions.{is_given}
use Rattle.backward_sweeps.specs.Remaking.{AreKept, AreRemadeFrom, parts_of}
use Rattle.backward_sweeps.proofs.pass.follow.Given as goal

-- the trees from the label on are made
abbrev pub invariant-loop-label : goal.invariant-loop-label
invariant-loop-label l =
    (length l.trees ≡ length l.transitions) × AreKept is_given l.transitions (plans l.initial.trees) (plans l.trees)
    × AreRemadeFrom l.label l.all (parts_of l.operands) l.transitions (plans l.trees)
