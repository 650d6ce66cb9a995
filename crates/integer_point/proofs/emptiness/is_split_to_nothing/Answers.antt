use Rattle.std.proofs.Common.{inl, inr, sym, subst, IfOk, MatchBool}
use Rattle.linear_solve.specs.Answers.{HasNoStore}
use Rattle.integer_point.specs.Hard.{MayHaveStore}
use Rattle.integer_point.proofs.Hardness.{deep_is_hard, many_is_hard, wide_is_hard}
use Rattle.integer_point.proofs.emptiness.is_split_to_nothing.Goals as goal
use Rattle.integer_point.proofs.emptiness.is_split_to_nothing.Goals.{in-Empty, in-Store, in-Deep, in-Wide, in-Rows}

pub returns : goal.returns
returns c =
    let rows = c.args.rows.now in
    elim c.match-branch-2.branch [
      | in-Empty w ↦ subst (λ r. IfOk r (λ empty. MatchBool empty (HasNoStore rows) (MayHaveStore rows))) (sym w.result-is) (rw w.in-Empty.is at c.in_ok-decide_whole.ensures)
      | in-Store w ↦ subst (λ r. IfOk r (λ empty. MatchBool empty (HasNoStore rows) (MayHaveStore rows))) (sym w.result-is) (inl (w.in-Store.field-0, (rw w.in-Store.is at c.in_ok-decide_whole.ensures).0))
      | in-Deep w ↦ subst (λ r. IfOk r (λ empty. MatchBool empty (HasNoStore rows) (MayHaveStore rows))) (sym w.result-is) (inr (inl (deep_is_hard rows _ (rw w.in-Deep.is at c.in_ok-decide_whole.ensures))))
      | in-Wide w ↦ subst (λ r. IfOk r (λ empty. MatchBool empty (HasNoStore rows) (MayHaveStore rows))) (sym w.result-is) (inr (inl (wide_is_hard rows w.in-Wide.field-0 (rw w.in-Wide.is at c.in_ok-decide_whole.ensures))))
      | in-Rows w ↦ subst (λ r. IfOk r (λ empty. MatchBool empty (HasNoStore rows) (MayHaveStore rows))) (sym w.result-is) (inr (inl (many_is_hard rows w.in-Rows.count (rw w.in-Rows.is at c.in_ok-decide_whole.ensures))))
    ]
