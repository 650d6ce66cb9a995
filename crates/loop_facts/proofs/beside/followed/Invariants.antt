use Rattle.std.proofs.Common.{◌≡◌, length}
use Rattle.backward_transfer.specs.AffineShapes.{plans}
use Rattle.control_flow.specs.Transitions.{is_given}
use Rattle.backward_sweeps.specs.Remaking.{AreKept, parts_of}
use Rattle.backward_sweeps.proofs.Passing.{AreFrom}
use Rattle.loop_facts.proofs.Keeping.{IsKeptOrMade}
use Rattle.loop_facts.proofs.beside.followed.Given as goal

-- the trees from the label on are made, or those at hand
abbrev pub invariant-loop-at : goal.invariant-loop-at
invariant-loop-at l =
    (length l.made.items ≡ length l.transitions) × AreKept is_given l.transitions (plans l.initial.made.items) (plans l.made.items)
    × AreFrom (IsKeptOrMade (parts_of l.operands) (plans l.trees)) l.at l.transitions (plans l.made.items)
