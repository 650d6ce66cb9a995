use Rattle.std.proofs.Common.{arith}
use Rattle.linear_solve.proofs.Occurring.{sides_some}
use Rattle.linear_solve.proofs.order.exact_choice.Goals as goal

pub returns : goal.returns
returns c = (
  c.requires,
  sides_some c.args.place c.args.rows.now (λ none. absurd (
      let l = c.sides-lowers.ensures.lowers in
      let u = c.sides-lowers.ensures.uppers in
      let some = c.if-lowers-uppers-eq0.false in
      omega (arith, l, u, some, none))),
)
