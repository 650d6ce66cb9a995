use Rattle.ctl_formula.specs.Mirror.{ctl}
use Rattle.part_families.specs.Knowing.{told_on}
use Rattle.part_families.specs.Showing.{Shows}
use Rattle.part_families.proofs.premises.Premises.left_beside.Goals as goal

pub returns : goal.returns
returns g c =
    let shows : Shows c.args.self.now.graph.now (told_on g.D.NumDomain c.args.self.now) (ctl c.args.formula.now) c.args.smaller.now.number
    c.args.smaller.now.operands.items c.in_ok-family.family =
    rw c.deref.ensures.value at c.in_ok-family.ensures in
    shows
