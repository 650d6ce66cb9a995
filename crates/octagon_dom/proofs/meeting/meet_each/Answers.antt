use Rattle.std.proofs.Common.{All, arith, subst, sym}
use Rattle.std.proofs.lemmas.List.{take_all}
use Rattle.std.proofs.lemmas.List.Elements.{All-more}
use Rattle.linear_cons.specs.Rows.{Meets}
use Rattle.octagon_dom.specs.Stated.{MeetsStated}
use Rattle.octagon_dom.proofs.meeting.meet_each.Goals as goal

pub loop-row-preserved : goal.loop-row-preserved
loop-row-preserved c =
    let before = c.loop-row.invariant in
    let met = c.meet_unimplied-fits.ensures in (
      record {
        long = met.long;
        keeps = λ store below all. met.keeps store (before.0.keeps store below all)
            (subst (Meets store) (sym c.row-item.is) (all c.loop-row.row-index c.row-item.result (omega arith)));
        inside = λ store below. before.0.inside store (met.inside store below);
      },
      All-more (λ row. MeetsStated row c.meet_unimplied-fits.new.cells) c.args.rows.now c.loop-row.row-index c.row-item.result (omega arith)
          (λ k d low shape half store below. before.1 k d low shape half store (met.inside store below))
          (subst (λ row. MeetsStated row c.meet_unimplied-fits.new.cells) c.row-item.is met.stated),
      λ is marked. met.whole (c.both-whole.ensures.other is) (before.2 (c.both-whole.ensures.one is) marked),
    )

pub returns-clause-stated : goal.returns-clause-stated
returns-clause-stated c =
    subst (All (λ row. MeetsStated row c.loop-row.cells)) (take_all c.loop-row.row-index c.args.rows.now (omega arith)) c.loop-row.invariant.1

pub returns-clause-whole : goal.returns-clause-whole
returns-clause-whole c is = c.loop-row.invariant.2 is
