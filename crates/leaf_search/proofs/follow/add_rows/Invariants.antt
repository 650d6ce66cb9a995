use Rattle.std.proofs.Common.{List, ◌++◌, take}
use Rattle.tree_support.specs.Arcs.{rows_given}
use Rattle.constraint_stack.specs.Forming.{Formed}
use Rattle.constraint_stack.specs.Stacks.{Held, all_asked}
use Rattle.constraint_stack.specs.Searches.{IsLonger}
use Rattle.leaf_search.proofs.follow.add_rows.Given as goal

abbrev pub invariant-loop-row : goal.invariant-loop-row
invariant-loop-row l =
    IsLonger l.initial.stack l.stack
    × ((asks : List Formed) → Held (all_asked asks) l.initial.stack.rows l.initial.stack.wide
    → Held (all_asked (asks ++ rows_given (take l.row-index l.rows))) l.stack.rows l.stack.wide)
