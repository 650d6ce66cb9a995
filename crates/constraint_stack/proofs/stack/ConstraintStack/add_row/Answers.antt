use Rattle.std.proofs.Common.{refl}
use Rattle.constraint_stack.proofs.Tightest.{keeps_apart, opposed_way}
use Rattle.constraint_stack.proofs.stack.ConstraintStack.add_row.Goals as goal

pub returns-then-opposes_one : goal.returns-then-opposes_one
returns-then-opposes_one c =
    (opposed_way c.args.self.now.rows c.rows.result.now c.args.row.now c.rows.ensures (c.if-opposes_one.ensures.0 refl), refl, refl)

pub returns : goal.returns
returns c =
    let added = c.in_ok-down.ensures.down in (
      added,
      refl,
      rw added (keeps_apart c.args.self.now.rows c.rows.result.now c.args.row.now c.rows.ensures (λ one. let wrong = c.if-opposes_one.ensures.1 one in absurd (cc))),
    )
