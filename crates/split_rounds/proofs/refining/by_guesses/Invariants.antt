use Rattle.std.proofs.Common.{length}
use Rattle.step_meaning.specs.Syntax.{statements}
use Rattle.ctl_formula.specs.Mirror.{ctl}
use Rattle.part_families.specs.Knowing.{told_on}
use Rattle.split_rounds.specs.Refined.{Refines}
use Rattle.split_rounds.proofs.refining.by_guesses.Given as goal

-- families were added
abbrev pub invariant-loop-guess : goal.invariant-loop-guess
invariant-loop-guess g l =
    Refines (length l.premises.graph.now.names) (statements l.premises.graph.now.body) (told_on g.D.NumDomain l.premises) (ctl l.formula) l.initial.certificate
    l.certificate
