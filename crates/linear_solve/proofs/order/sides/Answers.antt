use Rattle.std.proofs.Common.{◌<ℤ◌, pos, arith, rules}
use Rattle.std.proofs.lemmas.Int.{ints}
use Rattle.linear_cons.specs.Functions.{coefficient}
use Rattle.linear_cons.specs.Numbers.{Fits128}
use Rattle.linear_solve.proofs.Growing.{above_none, above_one, below_none, below_one, lowers_more, uppers_more}
use Rattle.linear_solve.proofs.order.sides.Goals as goal
use Rattle.linear_solve.proofs.order.sides.Goals.{then-coefficient-gt0, else-coefficient-gt0+then-coefficient-lt0, else-coefficient-gt0+else-coefficient-lt0}

pub loop-row-preserved : goal.loop-row-preserved
loop-row-preserved c =
    let number : Fits128 (coefficient c.row-item.result.affine c.args.place) = search rules in
    let l = lowers_more c.args.place c.args.rows.now c.loop-row.row-index c.row-item.result (omega arith) c.row-item.is in
    let u = uppers_more c.args.place c.args.rows.now c.loop-row.row-index c.row-item.result (omega arith) c.row-item.is in
    let i = c.loop-row.invariant in
    elim c.if-coefficient-gt0.branch [
      | then-coefficient-gt0 w ↦
          let more : pos 0 <ℤ coefficient c.row-item.result.affine c.args.place = omega (arith, ints) in
          let a = above_one _ more in
          let b = below_none (coefficient c.row-item.result.affine c.args.place) (omega (arith, ints)) in
          record { lowers = omega arith; uppers = omega arith; together = omega arith }
      | else-coefficient-gt0+then-coefficient-lt0 w ↦
          let less : coefficient c.row-item.result.affine c.args.place <ℤ pos 0 = omega (arith, ints) in
          let a = above_none (coefficient c.row-item.result.affine c.args.place) (omega (arith, ints)) in
          let b = below_one _ less in
          record { lowers = omega arith; uppers = omega arith; together = omega arith }
      | else-coefficient-gt0+else-coefficient-lt0 w ↦
          let a = above_none (coefficient c.row-item.result.affine c.args.place) (omega (arith, ints)) in
          let b = below_none (coefficient c.row-item.result.affine c.args.place) (omega (arith, ints)) in
          record { lowers = omega arith; uppers = omega arith; together = omega arith }
    ]
