use Rattle.std.proofs.lemmas.Result.{IfOk-weaker}
use Rattle.decision_tree.proofs.Comparing.{some_parts}
use Rattle.tree_widening.proofs.Judging.{leaf_judged}
use Rattle.tree_widening.proofs.against.exceeds.Goals as goal

pub exceeds_from-requires-clause-number : goal.exceeds_from-requires-clause-number
exceeds_from-requires-clause-number g c =
    some_parts g.R.Rank g.met.R.Rank.greater_length_law g.met.R.Rank.more_law g.met.R.Rank.greater_law c.args.next.now

pub returns-in-Ok-clause-judged : goal.returns-in-Ok-clause-judged
returns-in-Ok-clause-judged g c =
    rw (← c.deref-next.ensures) (IfOk-weaker c.exceeds_from.result _ _
    (λ met decided. leaf_judged g.R.Rank g.met.R.Rank.greater_law c.args.rank.now c.deref-next.result.now c.args.walk.now.trail met decided)
    c.exceeds_from.ensures.decided)
