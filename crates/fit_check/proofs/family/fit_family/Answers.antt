use Rattle.std.proofs.Common.{length, refl}
use Rattle.step_meaning.specs.Syntax.{statements}
use Rattle.control_flow.specs.Told.{Told, told_by}
use Rattle.ctl_formula.specs.Formulas.{falsity, truth}
use Rattle.part_families.specs.Families.{trees_of}
use Rattle.fit_check.proofs.family.fit_family.Goals as goal

pub returns-clause-fits : goal.returns-clause-fits
returns-clause-fits g c =
    let program = c.args.graph.now in
    let body = statements program.body in
    let vars = length program.names in
    let told : Told = told_by g.D.NumDomain.told_bounds g.D.NumDomain.told_rows g.D.NumDomain.seen_empty c.args.inv.now in
    let kept = c.in_ok-smaller.ensures in
    let shown = rw (c.in_ok-formula.ensures, kept.operands.1) at c.in_ok-family.ensures.shows.shown in
    c.checked_families_tell_what_fits.ensures vars body told program.valid.few program.valid.well_sorted
    (c.invariants_tell_the_truth.ensures vars body c.args.inv.now c.requires.invariants) (trees_of kept.operands.0) kept.operands.2 truth falsity _ refl (λ label. refl)
    (trees_of c.in_ok-family.family) shown
