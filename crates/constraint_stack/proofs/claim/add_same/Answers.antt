use Rattle.std.proofs.Common.{◌++◌, sym, subst}
use Rattle.std.proofs.lemmas.Result.{IfOk-weaker}
use Rattle.decision_tree.specs.Alternatives.{rows_of}
use Rattle.constraint_stack.specs.Stacks.{IsMetNowhere, all_chosen}
use Rattle.constraint_stack.proofs.claim.add_same.Goals as goal

pub returns-in-Some-clause-nowhere : goal.returns-in-Some-clause-nowhere
returns-in-Some-clause-nowhere c =
    IfOk-weaker c.add_each.result _ _
    (λ added nowhere not items held. subst (λ same. IsMetNowhere (items ++ all_chosen (rows_of same))) (sym c.in-Some.is) (nowhere not items held))
    c.add_each.ensures.nowhere
