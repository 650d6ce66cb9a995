use Rattle.std.proofs.Common.{◌≡◌, pos, arith, rules}
use Rattle.std.proofs.lemmas.Int.{ints}
use Rattle.linear_cons.specs.Functions.{coefficient}
use Rattle.linear_cons.specs.Numbers.{Fits128}
use Rattle.linear_solve.proofs.Lists.{item_in}
use Rattle.poly_dom.proofs.Turning.{still_met}
use Rattle.poly_dom.proofs.carrying.unmentioned.Goals as goal
use Rattle.poly_dom.proofs.carrying.unmentioned.Goals.{then-row-place-eq0+in_ok-add, else-row-place-eq0}

pub loop-row-preserved : goal.loop-row-preserved
loop-row-preserved c =
    let number : Fits128 (coefficient c.row-item.result.affine c.args.place) = search rules in
    elim c.if-row-place-eq0.branch [
      | then-row-place-eq0+in_ok-add w ↦
          let none : coefficient c.row-item.result.affine c.args.place ≡ pos 0 = omega (arith, ints) in
          rw w.list-is (record {
            keeps = still_met c.args.rows.now _ _ c.row-item.result c.args.place c.requires (item_in _ _ _ (omega arith) c.row-item.is) none c.loop-row.invariant.keeps w.in_ok-add.ensures;
            few = w.in_ok-add.ensures.few;
          })
      | else-row-place-eq0 w ↦ rw w.list-is c.loop-row.invariant
    ]
