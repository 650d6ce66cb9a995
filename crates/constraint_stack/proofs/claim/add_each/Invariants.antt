use Rattle.std.proofs.Common.{List, ◌++◌, take}
use Rattle.constraint_stack.specs.Stacks.{Held, Item, all_chosen}
use Rattle.constraint_stack.specs.Searches.{IsLonger}
use Rattle.constraint_stack.proofs.claim.add_each.Given as goal

abbrev pub invariant-loop-kind : goal.invariant-loop-kind
invariant-loop-kind l =
    IsLonger l.initial.stack l.stack
    × ((items : List Item) → Held items l.initial.stack.rows l.initial.stack.wide
    → Held (items ++ all_chosen (take l.kind-index l.kinds)) l.stack.rows l.stack.wide)
