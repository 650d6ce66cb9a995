use Rattle.std.proofs.Common.{◌≡◌, false, take}
use Rattle.std.specs.List.{list_any}
use Rattle.linear_cons.specs.Settling.{tells}
use Rattle.linear_cons.specs.declared.row.Row.{Row}
use Rattle.decision_tree.proofs.held.HeldRows.tell.Given as goal

-- none of the rows so far tells it
abbrev pub invariant-loop-place : goal.invariant-loop-place
invariant-loop-place l = list_any (λ (given : Row). tells given.affine l.row.affine) (take l.place l.self) ≡ false
