use Rattle.command_words.specs.Order.{Task}
use Rattle.function_top.specs.declared.question.Refusal.{Refusal}
use Rattle.function_top.specs.Output.{IsReason}
use Rattle.function_top.proofs.Refusing.{passed_on}
use Rattle.function_top.proofs.fitting.graph_of.Goals as goal

pub returns-in_err-graph-clause-refused : goal.returns-in_err-graph-clause-refused
returns-in_err-graph-clause-refused c =
    passed_on _ _ (λ (refusal : Refusal). (task : Task) → IsReason task c.args.text.now refusal) c.from_residual-in_err-graph.ensures
    (λ task. c.in_err-graph.ensures.refused task c.args.text.now c.in_ok-whole.ensures.parsed)

pub returns-clause-graph : goal.returns-clause-graph
returns-clause-graph c = c.in_ok-graph.ensures.graph c.args.text.now c.in_ok-whole.ensures.parsed
