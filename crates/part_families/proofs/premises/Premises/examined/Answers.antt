use Rattle.std.proofs.Common.{◌∙◌}
use Rattle.ctl_formula.specs.Mirror.{ctl}
use Rattle.part_families.specs.Knowing.{told_on}
use Rattle.part_families.proofs.Left.{left_shows}
use Rattle.part_families.proofs.premises.Premises.examined.Goals as goal

pub returns-clause-legal : goal.returns-clause-legal
returns-clause-legal g c = (c.in_ok-dropped.dropped.items, c.in_ok-dropped.ensures.legal)

pub returns-clause-shows : goal.returns-clause-shows
returns-clause-shows g c =
    left_shows c.args.self.now.graph.now (told_on g.D.NumDomain c.args.self.now) (ctl c.args.formula.now) c.args.number c.args.operands.now
    c.args.trees c.check_over.new.family c.in_ok-dropped.dropped.items c.in_ok-dropped.ensures.legal c.in_ok-dropped.ensures.supported
    c.requires.fit c.check_over.ensures.part (c.check_over.ensures.labels ∙ c.requires.labels ∙ c.requires.premises.labels)
    c.eliminations_spare_places.ensures
