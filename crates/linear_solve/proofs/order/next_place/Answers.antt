use Rattle.std.proofs.Common.{◌≡◌, Option, MatchOption, arith, refl, sym, subst, ℕ, ◌<◌, ◌+◌, true, false}
use Rattle.linear_solve.specs.Systems.{occurs}
use Rattle.linear_solve.specs.declared.order.Choice.{Choice}
use Rattle.linear_solve.proofs.Choosing.{IsFewestBelow, choice_more, choice_same}
use Rattle.linear_solve.proofs.Growing.{sides_fit}
use Rattle.linear_solve.proofs.Occurring.{sides_none, sides_some}
use Rattle.linear_solve.proofs.order.next_place.Goals as goal
use Rattle.linear_solve.proofs.order.next_place.Goals.{then-lowers-uppers-ne0, else-lowers-uppers-ne0}

pub overflow_add-lowers : goal.overflow_add-lowers
overflow_add-lowers c =
    let l = c.of-counts.ensures.lowers c.loop-place.place (omega arith) in
    let u = c.of-counts.ensures.uppers c.loop-place.place (omega arith) in
    let both = sides_fit c.loop-place.place c.args.rows.now in
    omega (arith, l, u, both)

pub loop-place-preserved : goal.loop-place-preserved
loop-place-preserved c =
    let Holds : Option Choice → Type 0 = λ best. MatchOption best ((i : ℕ) → i < c.loop-place.place + 1 → occurs i c.args.rows.now ≡ false) (IsFewestBelow c.args.rows.now (c.loop-place.place + 1)) in
    elim c.if-lowers-uppers-ne0.branch [
      | then-lowers-uppers-ne0 w ↦
          let some : occurs c.loop-place.place c.args.rows.now ≡ true = sides_some c.loop-place.place c.args.rows.now (λ e. absurd (let l = c.of-counts.ensures.lowers c.loop-place.place (omega arith) in let u = c.of-counts.ensures.uppers c.loop-place.place (omega arith) in omega (arith, l, u, e))) in
          let l = c.of-counts.ensures.lowers c.loop-place.place (omega arith) in
          let u = c.of-counts.ensures.uppers c.loop-place.place (omega arith) in
          subst Holds (sym w.best-is) (choice_more c.args.rows.now c.loop-place.place c.loop-place.best _ w.fewer.result (omega arith) refl (rw (l, u) refl) some c.loop-place.invariant w.fewer.ensures)
      | else-lowers-uppers-ne0 w ↦
          let none : occurs c.loop-place.place c.args.rows.now ≡ false = sides_none c.loop-place.place c.args.rows.now (let l = c.of-counts.ensures.lowers c.loop-place.place (omega arith) in let u = c.of-counts.ensures.uppers c.loop-place.place (omega arith) in omega (arith, l, u)) in
          subst Holds (sym w.best-is) (choice_same c.args.rows.now c.loop-place.place c.loop-place.best none c.loop-place.invariant)
    ]
