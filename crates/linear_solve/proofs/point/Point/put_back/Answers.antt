use Rattle.linear_solve.specs.Points.{MoveFits, PutBackFits, cleared}
use Rattle.linear_solve.specs.declared.point.Side.TheVariants.{Below, Above}
use Rattle.linear_solve.proofs.Outcomes.{on_err_map}
use Rattle.linear_solve.proofs.point.Point.put_back.Goals as goal

pub returns-in-Some-clause-unfit : goal.returns-in-Some-clause-unfit
returns-in-Some-clause-unfit c =
    let tightest = rw c.in-Some.is at c.in_ok-bound.ensures.best in
    let there : (¬ MoveFits (cleared c.args.self.now.num c.args.place) c.args.self.now.den c.in-Some.bound) → ¬ PutBackFits c.args.rows.now c.args.place c.args.self.now.num c.args.self.now.den = λ unfit fits. unfit (fits.moves Below c.in-Some.bound tightest.bounds) in
    on_err_map _ _ _ there c.moved.ensures.unfit

pub returns-in-Some-2-clause-unfit : goal.returns-in-Some-2-clause-unfit
returns-in-Some-2-clause-unfit c =
    let tightest = rw c.in-Some-2.is at c.in_ok-bound-2.ensures.best in
    let there : (¬ MoveFits (cleared c.args.self.now.num c.args.place) c.args.self.now.den c.in-Some-2.bound) → ¬ PutBackFits c.args.rows.now c.args.place c.args.self.now.num c.args.self.now.den = λ unfit fits. unfit (fits.moves Above c.in-Some-2.bound tightest.bounds) in
    on_err_map _ _ _ there c.moved-in-Some-2.ensures.unfit
