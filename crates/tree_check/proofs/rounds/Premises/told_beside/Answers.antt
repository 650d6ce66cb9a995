use Rattle.std.proofs.Common.{◌≡◌, [], ◌∷◌, ◌++◌, None, Some, length, rules, ap, subst, sym, ◌∙◌, arith}
use Rattle.std.proofs.lemmas.List.{length-append}
use Rattle.std.proofs.lemmas.Option.{same_Some}
use Rattle.tree_check.specs.Rounds.{setting_on}
use Rattle.tree_check.specs.Telling.{AreToldBeside, IsSameAround}
use Rattle.tree_check.proofs.Beside.{more_told}
use Rattle.tree_check.proofs.rounds.Premises.told_beside.Goals as goal
use Rattle.tree_check.proofs.rounds.Premises.told_beside.Goals.{then-is_same_around, else-is_same_around}

pub loop-label-preserved : goal.loop-label-preserved
loop-label-preserved g c =
    let at = setting_on g.D.NumDomain c.args.self.now in
    let same = c.args.same.now in
    let number = c.args.number in
    let told = c.loop-label.told.items in
    let heard = c.if-is_same_around.heard in
    let items : c.push.new.self.items ≡ told ++ heard ∷ [] = search rules in
    let before = c.loop-label.invariant.0 in (
      (let more = ap length items ∙ length-append told (heard ∷ []) in omega (arith, more, before)),
      subst (AreToldBeside at same number) (sym items)
          (more_told at same number told heard c.loop-label.invariant.1 (λ from is. elim c.if-is_same_around.branch [
            | then-is_same_around w ↦ (
              sym (same_Some number from (sym w.heard-is ∙ is)),
              subst (IsSameAround at same) (sym before) (c.is_same_around.ensures w.if-is_same_around.true),
            )
            | else-is_same_around w ↦ absurd (let both : None ≡ Some from = sym w.heard-is ∙ is in cc)
          ])),
    )
