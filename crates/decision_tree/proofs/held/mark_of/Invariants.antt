use Rattle.std.proofs.Common.{◌≡◌}
use Rattle.decision_tree.specs.Marks.{mark_before}
use Rattle.decision_tree.proofs.held.mark_of.Given as goal

-- the mark by the places so far
abbrev pub invariant-loop-place : goal.invariant-loop-place
invariant-loop-place l = l.mark ≡ mark_before l.row.affine l.place
