use Rattle.linear_cons.proofs.Dividing.{DivisorBelow}
use Rattle.linear_cons.proofs.divisor.divisor_of.Given as goal

abbrev pub invariant-loop-number : goal.invariant-loop-number
invariant-loop-number l = DivisorBelow l.number-index l.numbers l.divisor
