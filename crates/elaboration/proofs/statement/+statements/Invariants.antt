use Rattle.std.proofs.Common.{◌≤◌, ◌+◌, ◌*◌}
use Rattle.concrete_syntax.specs.Mirror.{statement as statement_of, otherwise as otherwise_of, items as items_of}
use Rattle.elaboration.specs.Statements.{items_walked}
use Rattle.elaboration.specs.Walking.{context_of}
use Rattle.elaboration.proofs.Walks.{IsLeft}
use Rattle.elaboration.proofs.Weights.{statement_weight, otherwise_weight, items_weight}
use Rattle.elaboration.proofs.statement.+statements.Given as goal

abbrev pub decreases-statement : goal.decreases-statement
decreases-statement l = 4 * statement_weight (statement_of l.tree.now)

abbrev pub decreases-conditional : goal.decreases-conditional
decreases-conditional l = 4 * (statement_weight (statement_of l.part.now) + otherwise_weight (otherwise_of l.other.now)) + 3

abbrev pub decreases-while_loop : goal.decreases-while_loop
decreases-while_loop l = 4 * statement_weight (statement_of l.part.now) + 3

abbrev pub decreases-do_loop : goal.decreases-do_loop
decreases-do_loop l = 4 * statement_weight (statement_of l.part.now) + 3

abbrev pub decreases-for_loop : goal.decreases-for_loop
decreases-for_loop l = 4 * statement_weight (statement_of l.tree.now.body) + 3

abbrev pub decreases-looped : goal.decreases-looped
decreases-looped l = 4 * statement_weight (statement_of l.part.now) + 2

abbrev pub decreases-body : goal.decreases-body
decreases-body l = 4 * statement_weight (statement_of l.tree.now) + 1

abbrev pub decreases-otherwise : goal.decreases-otherwise
decreases-otherwise l = 4 * otherwise_weight (otherwise_of l.tree.now)

abbrev pub decreases-guarded : goal.decreases-guarded
decreases-guarded l = 4 * (statement_weight (statement_of l.tree.now) + items_weight (items_of l.rest.now)) + 3

abbrev pub decreases-guard : goal.decreases-guard
decreases-guard l = 4 * (statement_weight (statement_of l.part.now) + items_weight (items_of l.rest.now)) + 3

abbrev pub decreases-items : goal.decreases-items
decreases-items l = 4 * items_weight (items_of l.tree.now)

-- the items that are left find, behind what was found, what the whole finds
abbrev pub invariant-items-loop-left : goal.invariant-items-loop-left
invariant-items-loop-left l =
    IsLeft l.walk l.out.items (items_walked (context_of l.context) l.walk.scope (items_of l.left))
    l.fn.walk l.fn.out.items (items_walked (context_of l.fn.context) l.fn.walk.scope (items_of l.tree))
    × (items_weight (items_of l.left) ≤ items_weight (items_of l.tree))
