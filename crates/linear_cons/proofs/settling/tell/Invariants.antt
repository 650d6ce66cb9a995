use Rattle.std.proofs.Common.{◌≡◌, false, take}
use Rattle.std.specs.List.{list_any}
use Rattle.linear_cons.specs.Settling.{tells}
use Rattle.linear_cons.specs.declared.row.Row.{Row}
use Rattle.linear_cons.proofs.settling.tell.Given as goal

-- none of the rows so far tells it
abbrev pub invariant-loop-given : goal.invariant-loop-given
invariant-loop-given l = list_any (λ (given : Row). tells given.affine l.row.affine) (take l.given-index l.rows) ≡ false
