use Rattle.std.proofs.Common.{All, arith, subst, sym}
use Rattle.std.proofs.lemmas.List.{take_all}
use Rattle.std.proofs.lemmas.List.Elements.{All-more}
use Rattle.linear_cons.specs.Rows.{Meets}
use Rattle.interval_dom.specs.Boxes.{Has, MeetsAlone}
use Rattle.interval_dom.proofs.boxes.Boxes.refine_all.Goals as goal

pub loop-row-preserved : goal.loop-row-preserved
loop-row-preserved c =
    let before = c.loop-row.invariant in (
      λ store is has met. c.refine.ensures.keeps store is (before.0 store is has met)
          (subst (Meets store) (sym c.row-item.is) (met c.loop-row.row-index c.row-item.result (omega arith))),
      λ store is has. before.1 store is (c.refine.ensures.inside store is has),
      All-more (λ row. MeetsAlone row (Has c.refine.new.self)) c.args.rows.now c.loop-row.row-index c.row-item.result (omega arith)
          (λ k d low place one store is has. before.2 k d low place one store is (c.refine.ensures.inside store is has))
          (subst (λ row. MeetsAlone row (Has c.refine.new.self)) c.row-item.is c.refine.ensures.alone),
    )

pub returns-clause-alone : goal.returns-clause-alone
returns-clause-alone c =
    subst (All (λ row. MeetsAlone row (Has c.loop-row.self))) (take_all c.loop-row.row-index c.args.rows.now (omega arith)) c.loop-row.invariant.2
