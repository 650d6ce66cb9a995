use Rattle.ctl_formula.specs.Mirror.{ctl}
use Rattle.part_families.specs.Knowing.{told_on}
use Rattle.part_families.specs.Showing.{Shows}
use Rattle.part_families.proofs.premises.Premises.by_plan.Given as goal

abbrev pub invariant-loop-parting : goal.invariant-loop-parting
invariant-loop-parting g l =
    Shows l.self.graph.now (told_on g.D.NumDomain l.self) (ctl l.formula) l.smaller.number l.smaller.operands.items l.best
