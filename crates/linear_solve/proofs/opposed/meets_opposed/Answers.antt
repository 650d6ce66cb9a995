use Rattle.std.proofs.Common.{arith, refl}
use Rattle.linear_solve.proofs.Lists.{item_in}
use Rattle.linear_solve.proofs.opposed.meets_opposed.Goals as goal

pub returns-then-opposed : goal.returns-then-opposed
returns-then-opposed c told = record {
  row = c.index-rows-first.result;
  other = c.index-rows-end.result;
  row_in = item_in _ _ _ (omega arith) c.index-rows-first.is;
  other_in = item_in _ _ _ (omega arith) c.index-rows-end.is;
  opposed = c.if-opposed.ensures.0 refl;
}
