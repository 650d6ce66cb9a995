use Rattle.std.proofs.Common.{◌≡◌, ◌+◌, ◌*◌, ◌≤◌}
use Rattle.concrete_syntax.specs.Mirror.{statement as statement_of, otherwise as otherwise_of, items as items_of}
use Rattle.elaboration.specs.Guards.{items_return}
use Rattle.elaboration.proofs.Weights.{statement_weight, otherwise_weight, items_weight}
use Rattle.elaboration.proofs.guards.+returns.Given as goal

abbrev pub decreases-items_return : goal.decreases-items_return
decreases-items_return l = 2 * items_weight (items_of l.tree.now)

abbrev pub decreases-otherwise_returns : goal.decreases-otherwise_returns
decreases-otherwise_returns l = 2 * otherwise_weight (otherwise_of l.tree.now)

abbrev pub decreases-returns : goal.decreases-returns
decreases-returns l = 2 * statement_weight (statement_of l.tree.now) + 1

-- what is left returns where all do
abbrev pub invariant-items_return-loop-left : goal.invariant-items_return-loop-left
invariant-items_return-loop-left l =
    (items_return (items_of l.left) ≡ items_return (items_of l.fn.tree)) × (items_weight (items_of l.left) ≤ items_weight (items_of l.fn.tree))
