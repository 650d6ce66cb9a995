use Rattle.linear_cons.specs.Functions.{coefficient}
use Rattle.linear_solve.specs.Elimination.{one_above, one_below}
use Rattle.linear_solve.proofs.Counted.{AreRaisedBelow}
use Rattle.linear_solve.proofs.order.Counts.add.Given as goal

abbrev pub invariant-loop-place : goal.invariant-loop-place
invariant-loop-place l = record {
  lowers : AreRaisedBelow (λ place. one_above (coefficient l.row.affine place)) l.place l.initial.self.lowers l.self.lowers;
  uppers : AreRaisedBelow (λ place. one_below (coefficient l.row.affine place)) l.place l.initial.self.uppers l.self.uppers;
}
