use Rattle.std.proofs.Common.{◌≡◌, false, take}
use Rattle.std.specs.List.{list_any}
use Rattle.linear_cons.specs.Functions.{complement_of}
use Rattle.linear_cons.specs.Settling.{tells}
use Rattle.linear_cons.specs.declared.row.Row.{Row}
use Rattle.decision_tree.proofs.held.HeldRows.oppose.Given as goal

-- none of the rows so far is opposed to it
abbrev pub invariant-loop-place : goal.invariant-loop-place
invariant-loop-place l = list_any (λ (given : Row). tells given.affine (complement_of l.row.affine)) (take l.place l.self) ≡ false
