use Rattle.std.proofs.Common.{subst, sym}
use Rattle.linear_cons.specs.Bounds.{LiesIn}
use Rattle.interval_dom.proofs.boxes.BoxesNumDomain.implies.Goals as goal

pub returns : goal.returns
returns c truth store is has =
    c.ends_imply.ensures truth store (subst (λ bounds. LiesIn bounds store) (sym c.ends.ensures) has)
