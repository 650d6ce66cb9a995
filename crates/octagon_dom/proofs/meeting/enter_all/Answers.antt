use Rattle.std.proofs.Common.{arith, subst, sym}
use Rattle.linear_cons.specs.Rows.{Meets}
use Rattle.octagon_dom.proofs.meeting.enter_all.Goals as goal

pub loop-row-preserved : goal.loop-row-preserved
loop-row-preserved c = record {
  long = c.enter.ensures.long;
  keeps = λ store below met. c.enter.ensures.keeps store (c.loop-row.invariant.keeps store below met)
      (subst (Meets store) (sym c.row-item.is) (met c.loop-row.row-index c.row-item.result (omega arith)));
  inside = λ store below. c.loop-row.invariant.inside store (c.enter.ensures.inside store below);
}
