use Rattle.std.proofs.Common.{subst, sym}
use Rattle.linear_cons.specs.Bounds.{LiesIn}
use Rattle.octagon_dom.specs.Laws.Rows.{below_lies}
use Rattle.octagon_dom.proofs.Lowering.{within_kept}
use Rattle.octagon_dom.proofs.meeting.imply.Goals as goal

pub returns-in-Some : goal.returns-in-Some
returns-in-Some c truth store below =
    let stated = c.in-Some.stated in
    let between = c.in-Some.ensures.between in
    let within = rw c.at.ensures at (c.is_within.ensures truth) in
    let kept = within_kept _ _ _ within (below stated.high stated.low between.from between.to) in
    c.in-Some.ensures.exact kept.0 kept.1 store (rw kept.1 kept.2)

pub returns-in-None : goal.returns-in-None
returns-in-None c truth store below =
    c.ends_imply.ensures truth store (subst (λ bounds. LiesIn bounds store) (sym c.bounds_of.ensures) (below_lies c.args.cells.now store below))
