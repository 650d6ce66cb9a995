use Rattle.std.proofs.Common.{rules, arith}
use Rattle.ctl_rounds.proofs.Asking.{unasked}
use Rattle.function_top.proofs.demo.demo.Goals as goal

pub returns-in_err-text-clause-asked : goal.returns-in_err-text-clause-asked
returns-in_err-text-clause-asked g c = (0, omega (arith), unasked (λ a. (goal.Adviser-dyn g (a.vtable, a.value)).asked_of a.value) c.args.advisers.now.items, search rules)

pub returns-in_err-graph-clause-asked : goal.returns-in_err-graph-clause-asked
returns-in_err-graph-clause-asked g c = (0, omega (arith), unasked (λ a. (goal.Adviser-dyn g (a.vtable, a.value)).asked_of a.value) c.args.advisers.now.items, search rules)
