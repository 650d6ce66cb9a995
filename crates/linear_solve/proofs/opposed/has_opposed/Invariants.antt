use Rattle.std.proofs.Common.{All, take, pos, ◌<ℤ◌}
use Rattle.linear_solve.specs.Systems.{IsOpposedToOne}
use Rattle.linear_solve.proofs.opposed.has_opposed.Given as goal

abbrev pub invariant-loop-row : goal.invariant-loop-row
invariant-loop-row l = All (λ row. row.affine.constant <ℤ pos 0 → IsOpposedToOne row l.rows → ⊥) (take l.row-index l.rows)
