use Rattle.std.proofs.Common.{◌∙◌, ◌++◌, ◌∷◌, [], ap, arith, sym}
use Rattle.forward_inv.proofs.Marking.{marked_none, one_marked, one_unmarked}
use Rattle.forward_inv.proofs.guess.Marks.of.Goals as goal
use Rattle.forward_inv.proofs.guess.Marks.of.Goals.{else-has, then-has+in_ok-push}

pub loop-place-init : goal.loop-place-init
loop-place-init c = rw c.in_ok-kept.ensures.items (marked_none c.args.rows.now c.args.self.now)

pub loop-place-preserved : goal.loop-place-preserved
loop-place-preserved c =
    let before = c.loop-place.invariant in
    elim c.if-has.branch [
      | then-has+in_ok-push w ↦ rw w.kept-is (w.in_ok-push.ensures.items ∙ ap (λ kept. kept ++ w.index-rows-place.result ∷ []) before
          ∙ one_marked c.loop-place.place c.args.rows.now c.args.self.now w.index-rows-place.result (omega arith) w.index-rows-place.is
          (sym c.has.ensures ∙ w.if-has.true))
      | else-has w ↦ rw w.kept-is (before ∙ one_unmarked c.loop-place.place c.args.rows.now c.args.self.now (sym c.has.ensures ∙ w.if-has.false))
    ]
