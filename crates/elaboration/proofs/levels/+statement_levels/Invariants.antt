use Rattle.std.proofs.Common.{◌≡◌, ◌≤◌, ◌+◌, ◌*◌, max}
use Rattle.concrete_syntax.specs.Mirror.{statement as statement_of, otherwise as otherwise_of, items as items_of}
use Rattle.elaboration.specs.Levels.{items_levels}
use Rattle.elaboration.proofs.Weights.{statement_weight, otherwise_weight, items_weight}
use Rattle.elaboration.proofs.levels.+statement_levels.Given as goal

abbrev pub decreases-statement_levels : goal.decreases-statement_levels
decreases-statement_levels l = 2 * statement_weight (statement_of l.tree.now)

abbrev pub decreases-for_levels : goal.decreases-for_levels
decreases-for_levels l = 2 * statement_weight (statement_of l.tree.now.body) + 1

abbrev pub decreases-otherwise_levels : goal.decreases-otherwise_levels
decreases-otherwise_levels l = 2 * otherwise_weight (otherwise_of l.tree.now)

abbrev pub decreases-items_levels : goal.decreases-items_levels
decreases-items_levels l = 2 * items_weight (items_of l.tree.now)

-- the greatest so far and that of what is left is that of all
abbrev pub invariant-items_levels-loop-left : goal.invariant-items_levels-loop-left
invariant-items_levels-loop-left l =
    (max l.most (items_levels l.here (items_of l.left)) ≡ items_levels l.level (items_of l.fn.tree))
    × (l.here ≤ l.most)
    × (items_weight (items_of l.left) ≤ items_weight (items_of l.fn.tree))
