use Rattle.std.proofs.Common.{refl, arith, ◌≤◌, length}
use Rattle.linear_cons.specs.Rows.{AreOpposed}
use Rattle.linear_cons.specs.declared.row.Row.{Row}
use Rattle.std.proofs.lemmas.Bool.{false≢true}
use Rattle.linear_solve.proofs.Lists.{all_end, item_in, member_of}
use Rattle.linear_solve.proofs.opposed.opposes_one.Goals as goal

pub returns-then-opposed : goal.returns-then-opposed
returns-then-opposed c =
    (λ t. record { other = c.other-item.result; other_in = item_in _ _ _ (omega arith) c.other-item.is; opposed = c.if-opposed.ensures.0 refl }, λ h. refl)

pub returns : goal.returns
returns c =
    let end : length c.args.rows.now ≤ c.loop-other.other-index = omega arith in
    let all = all_end (λ (other : Row). AreOpposed c.args.row.now other → ⊥) c.args.rows.now c.loop-other.other-index end c.loop-other.invariant in
    (λ t. absurd (false≢true t), λ one. absurd (member_of (λ (other : Row). AreOpposed c.args.row.now other → ⊥) _ one.other all one.other_in one.opposed))
