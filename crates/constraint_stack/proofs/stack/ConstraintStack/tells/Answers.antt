use Rattle.std.proofs.Common.{Contains, sym, arith, ◌∙◌}
use Rattle.linear_solve.proofs.Lists.{item_in, member_of}
use Rattle.constraint_stack.proofs.stack.ConstraintStack.tells.Goals as goal

pub returns-then-tells : goal.returns-then-tells
returns-then-tells c told = record {
  given = c.given-item.result;
  given_in = member_of (λ row. Contains c.args.self.now.rows row) c.rows-given-items.result.now c.given-item.result c.rows-given-items.ensures.among (item_in _ _ _ (omega arith) c.given-item.is);
  tells_it = sym c.tells.ensures ∙ c.if-tells.true;
}
