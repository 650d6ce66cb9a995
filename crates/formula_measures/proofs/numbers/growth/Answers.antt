use Rattle.std.proofs.Common.{◌+◌, ◌*◌, ◌-◌, ◌^◌, min, ap, ◌∙◌, arith}
use Rattle.step_meaning.specs.Syntax.{statements}
use Rattle.ctl_formula.specs.Mirror.{ctl}
use Rattle.formula_measures.proofs.Grown.{growth_held}
use Rattle.formula_measures.proofs.numbers.growth.Goals as goal

pub returns-clause-fits : goal.returns-clause-fits
returns-clause-fits c fitting =
    let body = statements c.args.graph.now.body in
    let f = ctl c.args.formula.now in
    c.max.ensures
    ∙ growth_held body f c.growth-of_tests.result c.saturating_mul-of_atoms.result c.product.result (c.growth-of_tests.ensures.fits fitting) (c.product.ensures fitting)
    (c.saturating_mul-of_atoms.ensures ∙ ap (λ t. min (t * c.product.result) (2 ^ 128 - 1)) (c.saturating_add.ensures ∙ ap (λ t. min (t + 1) (2 ^ 128 - 1)) c.atom_size.ensures))

pub returns-clause-wide : goal.returns-clause-wide
returns-clause-wide c unfit =
    let tests = c.growth-of_tests.ensures.wide unfit in
    let atoms = c.saturating_mul-of_atoms.ensures in
    c.max.ensures ∙ (omega (arith, tests, atoms))
