use Rattle.std.proofs.Common.{subst, sym}
use Rattle.linear_cons.specs.Bounds.{LiesIn}
use Rattle.octagon_dom.proofs.UnaryEnds.{ends_lie, lies_ends}
use Rattle.octagon_dom.proofs.octagon.OctagonNumDomain.bounds.Goals as goal

pub returns-clause-exact : goal.returns-clause-exact
returns-clause-exact c store = (
  λ lies. lies_ends c.args.self.now.cells.items store (subst (λ bounds. LiesIn bounds store) c.ends.ensures lies),
  λ keeps. subst (λ bounds. LiesIn bounds store) (sym c.ends.ensures) (ends_lie c.args.self.now.cells.items store keeps),
)
