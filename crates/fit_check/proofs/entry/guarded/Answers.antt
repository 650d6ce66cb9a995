use Rattle.std.proofs.Common.{length}
use Rattle.step_meaning.specs.Syntax.{statements}
use Rattle.decision_tree.specs.Plans.{plan_of}
use Rattle.fit_check.proofs.AtEntry.{behind_guard}
use Rattle.fit_check.proofs.entry.guarded.Goals as goal

pub returns : goal.returns
returns g c =
    let program = c.args.program in
    behind_guard (length program.names) (statements program.body) (plan_of c.in_ok-tree.tree) program.valid.few c.what_fits_behind_the_guard_fits.ensures
    (rw (c.in_ok-guarded.ensures.body, c.in_ok-guarded.ensures.names) at c.in_ok-tree.ensures)
