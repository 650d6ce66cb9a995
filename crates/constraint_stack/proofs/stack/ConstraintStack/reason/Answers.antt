use Rattle.std.proofs.Common.{inr, rules}
use Rattle.std.proofs.lemmas.Int.{to_z-of_z}
use Rattle.linear_cons.specs.Numbers.{Fits128}
use Rattle.linear_solve.proofs.Deciding.{no_store_of_kept}
use Rattle.constraint_stack.proofs.Tightest.{found_way, held_stands, no_octagons, outgrows, overflows}
use Rattle.constraint_stack.proofs.stack.ConstraintStack.reason.Goals as goal

pub returns-in-Empty : goal.returns-in-Empty
returns-in-Empty c =
    no_store_of_kept c.args.self.now.rows c.rows-rows.result.now (held_stands c.args.self.now.rows c.rows-rows.result.now c.rows-rows.ensures)
    (rw c.in-Empty.is at c.in_ok-decide_tightest.ensures)

pub by_point-requires : goal.by_point-requires
by_point-requires c =
    let den : Fits128 c.in-Point.den = search rules in
    let point = rw c.in-Point.is at c.in_ok-decide_tightest.ensures in
    simp to_z-of_z point

pub returns-in_ok-reason-in-Point : goal.returns-in_ok-reason-in-Point
returns-in_ok-reason-in-Point c = found_way c.args.self.now.rows c.rows-rows.result.now c.rows-rows.ensures c.in_ok-reason-in-Point.reason c.in_ok-reason-in-Point.ensures

pub returns-in-Wide : goal.returns-in-Wide
returns-in-Wide c =
    let is = rw c.in-Wide.is at c.in_ok-decide_tightest.ensures in
    let tightest = c.rows-rows.ensures in (
      is.0,
      no_octagons c.args.self.now.rows c.rows-rows.result.now tightest is.1.no_octagons,
      outgrows c.args.self.now.rows c.rows-rows.result.now tightest is.1.large,
    )

pub returns-in-Rows : goal.returns-in-Rows
returns-in-Rows c =
    let is = rw c.in-Rows.is at c.in_ok-decide_tightest.ensures in
    let tightest = c.rows-rows.ensures in (
      is.0,
      inr (
        no_octagons c.args.self.now.rows c.rows-rows.result.now tightest is.1.no_octagons,
        overflows c.args.self.now.rows c.rows-rows.result.now tightest is.1.many,
      ),
    )
