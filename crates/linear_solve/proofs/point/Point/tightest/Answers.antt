use Rattle.std.proofs.lemmas.Grind.{common_steps}
use Rattle.std.proofs.Common.{◌≡◌, ◌≤ℤ◌, pos, arith, rules, Option, MatchOption, subst, sym, take, ◌+◌}
use Rattle.std.proofs.lemmas.Int.{ints, to_z-of_z}
use Rattle.linear_cons.specs.Functions.{coefficient}
use Rattle.linear_cons.specs.Numbers.{Fits128}
use Rattle.linear_solve.specs.Points.{IsBound, IsFree, IsTightest, slope_at}
use Rattle.linear_solve.specs.declared.point.Bound.{Bound}
use Rattle.linear_solve.proofs.Bounding.{crosses_unfit, tightest_next, tightest_same}
use Rattle.linear_solve.proofs.Lists.{item_in}
use Rattle.linear_solve.proofs.Outcomes.{on_err}
use Rattle.linear_solve.proofs.point.Point.tightest.Goals as goal
use Rattle.linear_solve.proofs.point.Point.tightest.Goals.{then-slope-gt0+in_ok-form+in_ok-tighter, else-slope-gt0}

pub returns-in_err-tighter-clause-unfit : goal.returns-in_err-tighter-clause-unfit
returns-in_err-tighter-clause-unfit c =
    let number : Fits128 (coefficient c.row-item.result.affine c.args.place) = search rules in
    let size : Fits128 c.in_ok-slope.slope = search rules in
    let slope : c.in_ok-slope.slope ≡ slope_at c.args.side c.row-item.result c.args.place = (simp to_z-of_z at c.in_ok-slope.ensures.exact).1 in
    let form : Fits128 c.in_ok-form.form = search rules in
    let next : Bound = record { form = c.in_ok-form.form; slope = c.in_ok-slope.slope } in
    let own : IsBound c.args.rows.now c.args.place c.args.side c.args.self.now.num c.args.self.now.den next =
    record { row = c.row-item.result; row_in = item_in _ _ _ (omega arith) c.row-item.is; form = c.in_ok-form.ensures.exact.1; slope = slope; positive = omega (arith, ints) } in
    on_err _ _ c.from_residual-in_err-tighter.ensures.0 (crosses_unfit _ _ _ _ _ _ c.loop-row.best next c.loop-row.invariant own (simp to_z-of_z at c.in_err-tighter.ensures.unfit))

pub loop-row-preserved : goal.loop-row-preserved
loop-row-preserved c =
    let number : Fits128 (coefficient c.row-item.result.affine c.args.place) = search rules in
    let size : Fits128 c.in_ok-slope.slope = search rules in
    let slope : c.in_ok-slope.slope ≡ slope_at c.args.side c.row-item.result c.args.place = (simp to_z-of_z at c.in_ok-slope.ensures.exact).1 in
    let Holds : Option Bound → Type 0 = λ best. MatchOption best (IsFree (take (c.loop-row.row-index + 1) c.args.rows.now) c.args.place c.args.side) (IsTightest (take (c.loop-row.row-index + 1) c.args.rows.now) c.args.place c.args.side c.args.self.now.num c.args.self.now.den) in
    elim c.if-slope-gt0.branch [
      | then-slope-gt0+in_ok-form+in_ok-tighter w ↦
          let form : Fits128 w.in_ok-form.form = search rules in
          let next : Bound = record { form = w.in_ok-form.form; slope = c.in_ok-slope.slope } in
          subst Holds (sym w.best-is) (tightest_next c.args.rows.now c.loop-row.row-index c.args.place c.args.side c.args.self.now.num c.args.self.now.den c.row-item.result c.loop-row.best next _ (omega arith) c.row-item.is w.in_ok-form.ensures.exact.1 slope (omega (arith, ints)) c.loop-row.invariant (simp to_z-of_z at w.in_ok-tighter.ensures.some))
      | else-slope-gt0 w ↦
          let low : c.in_ok-slope.slope ≤ℤ pos 0 = omega (arith, ints) in
          subst Holds (sym w.best-is) (tightest_same c.args.rows.now c.loop-row.row-index c.args.place c.args.side c.args.self.now.num c.args.self.now.den c.row-item.result c.loop-row.best (omega arith) c.row-item.is (λ more. absurd (omega (arith, ints))) c.loop-row.invariant)
    ]

pub returns-in_err-form-clause-best : goal.returns-in_err-form-clause-best
returns-in_err-form-clause-best c = grind (arith, common_steps)

pub returns-in_err-form-clause-unfit : goal.returns-in_err-form-clause-unfit
returns-in_err-form-clause-unfit c = grind (arith, common_steps)

pub returns-in_err-form-clause-wide : goal.returns-in_err-form-clause-wide
returns-in_err-form-clause-wide c = grind (arith, common_steps)

pub returns-clause-best : goal.returns-clause-best
returns-clause-best c = grind (arith, common_steps)
