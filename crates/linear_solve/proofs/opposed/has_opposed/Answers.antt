use Rattle.std.proofs.Common.{refl, arith, pos, ◌≤◌, ◌<ℤ◌, rules, length}
use Rattle.std.proofs.lemmas.Int.{ints}
use Rattle.linear_cons.specs.declared.row.Row.{Row}
use Rattle.linear_cons.specs.Numbers.{Fits128}
use Rattle.linear_solve.specs.Systems.{IsOpposedToOne}
use Rattle.std.proofs.lemmas.Bool.{false≢true}
use Rattle.linear_solve.proofs.Lists.{all_end, all_more, item_in}
use Rattle.linear_solve.proofs.Opposing.{opposed_lower}
use Rattle.linear_solve.proofs.opposed.has_opposed.Goals as goal
use Rattle.linear_solve.proofs.opposed.has_opposed.Goals.{else-row-lt0-via-then-row-lt0+else-opposes_one, else-row-lt0-via-else-row-lt0}

pub returns-then-opposes_one : goal.returns-then-opposes_one
returns-then-opposes_one c =
    let one = c.if-opposes_one.ensures.0 refl in
    (λ t. record { row = c.row-item.result; other = one.other; row_in = item_in _ _ _ (omega arith) c.row-item.is; other_in = one.other_in; opposed = one.opposed }, λ h. refl)

pub loop-row-preserved : goal.loop-row-preserved
loop-row-preserved c =
    let constant : Fits128 c.row-item.result.affine.constant = search rules in
    let none : c.row-item.result.affine.constant <ℤ pos 0 → IsOpposedToOne c.row-item.result c.args.rows.now → ⊥ = elim c.else-row-lt0.branch [
      | else-row-lt0-via-then-row-lt0+else-opposes_one w ↦ λ less one. false≢true (w.if-opposes_one.ensures.1 one)
      | else-row-lt0-via-else-row-lt0 w ↦ λ less. absurd (omega (arith, ints, less))
    ] in
    all_more (λ (row : Row). row.affine.constant <ℤ pos 0 → IsOpposedToOne row c.args.rows.now → ⊥) c.args.rows.now c.loop-row.row-index c.row-item.result (omega arith) c.row-item.is c.loop-row.invariant none

pub returns : goal.returns
returns c =
    let end : length c.args.rows.now ≤ c.loop-row.row-index = omega arith in
    let all = all_end (λ (row : Row). row.affine.constant <ℤ pos 0 → IsOpposedToOne row c.args.rows.now → ⊥) c.args.rows.now c.loop-row.row-index end c.loop-row.invariant in
    (λ t. absurd (false≢true t), λ two. absurd (opposed_lower c.args.rows.now two all))
