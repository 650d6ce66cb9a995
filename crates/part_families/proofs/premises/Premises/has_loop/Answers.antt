use Rattle.std.proofs.Common.{◌∙◌, length}
use Rattle.step_meaning.specs.Syntax.{statements}
use Rattle.exact_families.proofs.Proposing.{no_head}
use Rattle.part_families.specs.Knowing.{told_on}
use Rattle.part_families.proofs.premises.Premises.has_loop.Goals as goal

pub returns : goal.returns
returns g c loopless =
    let program = c.args.self.now.graph.now in
    c.has_head.ensures (no_head (statements program.body) (length program.names) program.valid.few program.valid.well_sorted loopless.fitting loopless.free
    (told_on g.D.NumDomain c.args.self.now) c.args.self.now.transitions.now (c.requires.premises.transitions ∙ c.requires.premises.labels) c.requires.premises.told)
