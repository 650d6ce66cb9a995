use Rattle.std.proofs.Common.{length, arith}
use Rattle.std.proofs.lemmas.Grind.{common_steps}
use Rattle.part_families.specs.Knowing.{told_on}
use Rattle.part_families.proofs.KnownShown.{end_shows, truth_shows}
use Rattle.part_families.proofs.premises.Premises.itself.Goals as goal
use Rattle.step_meaning.specs.Syntax.{statements}
use Rattle.part_families.proofs.Narrowly.{end_narrow, truth_narrow}
use Rattle.part_families.proofs.Exact.{end_exact, truth_exact}

pub returns-in_ok-known-in-True-clause-shows : goal.returns-in_ok-known-in-True-clause-shows
returns-in_ok-known-in-True-clause-shows g c = rw c.in-True.is
    (truth_shows c.args.self.now.graph.now (told_on g.D.NumDomain c.args.self.now) c.args.self.now.labels c.requires.premises.labels
    c.args.smaller.now.operands.items c.args.smaller.now.number c.in_ok-known-in-True.known c.in_ok-known-in-True.ensures.number
    c.in_ok-known-in-True.ensures.trees)

pub returns-in_ok-known-in-Exit-clause-shows : goal.returns-in_ok-known-in-Exit-clause-shows
returns-in_ok-known-in-Exit-clause-shows g c = rw c.in-Exit.is
    (end_shows c.args.self.now.graph.now (told_on g.D.NumDomain c.args.self.now) c.args.self.now.labels c.requires.premises.labels
    c.args.smaller.now.operands.items c.args.smaller.now.number c.in_ok-known-in-Exit.known c.in_ok-known-in-Exit.ensures.number
    c.in_ok-known-in-Exit.ensures.trees)

pub returns-in_ok-known-in-True-clause-exact : goal.returns-in_ok-known-in-True-clause-exact
returns-in_ok-known-in-True-clause-exact g c = rw c.in-True.is
    (λ loopless each. truth_exact (statements c.args.self.now.graph.now.body) c.args.self.now.labels c.requires.premises.labels
    c.in_ok-known-in-True.known c.in_ok-known-in-True.ensures.trees)

pub returns-in_ok-known-in-Exit-clause-exact : goal.returns-in_ok-known-in-Exit-clause-exact
returns-in_ok-known-in-Exit-clause-exact g c = rw c.in-Exit.is
    (λ loopless each. end_exact (statements c.args.self.now.graph.now.body) c.args.self.now.labels c.in_ok-known-in-Exit.known
    c.in_ok-known-in-Exit.ensures.trees)

pub returns-in_ok-known-in-True-clause-narrow : goal.returns-in_ok-known-in-True-clause-narrow
returns-in_ok-known-in-True-clause-narrow g c = rw c.in-True.is
    (λ loopless within own each. truth_narrow (length c.args.self.now.graph.now.names) (statements c.args.self.now.graph.now.body) c.args.self.now.labels
    c.requires.premises.labels c.in_ok-known-in-True.known c.in_ok-known-in-True.ensures.trees)

pub returns-in_ok-known-in-Exit-clause-narrow : goal.returns-in_ok-known-in-Exit-clause-narrow
returns-in_ok-known-in-Exit-clause-narrow g c = rw c.in-Exit.is
    (λ loopless within own each. end_narrow (length c.args.self.now.graph.now.names) (statements c.args.self.now.graph.now.body) c.args.self.now.labels
    c.in_ok-known-in-Exit.known c.in_ok-known-in-Exit.ensures.trees)

pub returns-in-False : goal.returns-in-False
returns-in-False g c = grind (arith, common_steps)
