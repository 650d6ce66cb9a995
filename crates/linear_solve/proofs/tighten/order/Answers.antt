use Rattle.std.proofs.Common.{arith, ◌∙◌}
use Rattle.linear_solve.proofs.Tightening.{order_apart, order_same}
use Rattle.linear_solve.proofs.tighten.order.Goals as goal

pub returns-in_default : goal.returns-in_default
returns-in_default c =
    c.cmp.ensures ∙ order_apart c.args.row.now c.args.other.now c.loop-place.place c.loop-place-test.true c.loop-place.invariant (λ e. c.in_default.not-Equal (c.cmp.ensures ∙ e))

pub returns : goal.returns
returns c = c.cmp-2.ensures ∙ order_same c.args.row.now c.args.other.now (λ i low. c.loop-place.invariant i (omega arith))
