use Rattle.std.proofs.Common.{All, take}
use Rattle.linear_cons.specs.Rows.{AreOpposed}
use Rattle.linear_solve.proofs.opposed.opposes_one.Given as goal

abbrev pub invariant-loop-other : goal.invariant-loop-other
invariant-loop-other l = All (λ other. AreOpposed l.row other → ⊥) (take l.other-index l.rows)
