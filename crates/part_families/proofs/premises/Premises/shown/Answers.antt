use Rattle.part_families.specs.Knowing.{told_on}
use Rattle.ctl_formula.specs.Mirror.{ctl}
use Rattle.part_families.proofs.Combining.{shown_with}
use Rattle.part_families.proofs.premises.Premises.shown.Goals as goal

pub returns : goal.returns
returns g c = λ k below.
    shown_with c.args.self.now.graph.now (told_on g.D.NumDomain c.args.self.now) c.args.self.now.labels k (ctl c.args.formula.now) c.args.smaller
    (record { smaller = c.in_ok-smaller.smaller; whole = c.in_ok-whole.whole }) below c.in_ok-smaller.ensures c.in_ok-whole.ensures.shows
    c.in_ok-whole.ensures.everywhere c.in_ok-whole.ensures.exact c.in_ok-whole.ensures.narrow c.requires.premises.labels
