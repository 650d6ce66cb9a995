use Rattle.ctl_formula.specs.Mirror.{ctl}
use Rattle.part_families.specs.Knowing.{told_on}
use Rattle.part_families.specs.Showing.{Shows}
use Rattle.part_families.proofs.premises.Premises.searched.Given as goal

abbrev pub invariant-loop-plan : goal.invariant-loop-plan
invariant-loop-plan g l =
    Shows l.self.graph.now (told_on g.D.NumDomain l.self) (ctl l.formula) l.smaller.number l.smaller.operands.items l.best
