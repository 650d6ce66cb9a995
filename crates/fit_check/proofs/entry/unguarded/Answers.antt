use Rattle.std.proofs.Common.{length}
use Rattle.step_meaning.specs.Syntax.{statements}
use Rattle.fit_check.proofs.AtEntry.{nothing_fits}
use Rattle.fit_check.proofs.entry.unguarded.Goals as goal

pub returns-in-Ok : goal.returns-in-Ok
returns-in-Ok g c = let same = rw c.in-Ok.is at c.of.ensures.program in rw same at c.at_entry.ensures

pub returns-in-Err : goal.returns-in-Err
returns-in-Err g c = nothing_fits (length c.args.program.names) (statements c.args.program.body)
