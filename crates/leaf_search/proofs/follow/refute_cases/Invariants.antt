use Rattle.std.proofs.Common.{List, All, map, take}
use Rattle.decision_tree.specs.Plans.{plan_of}
use Rattle.tree_support.specs.Arcs.{choosing_each}
use Rattle.constraint_stack.specs.Forming.{Formed}
use Rattle.tree_support.specs.Setting.{trees_in}
use Rattle.constraint_stack.specs.Claims.{HasNoStore}
use Rattle.constraint_stack.specs.Stacks.{Held, all_asked}
use Rattle.leaf_search.specs.Arcs.{over_each}
use Rattle.constraint_stack.specs.Searches.{IsSame}
use Rattle.leaf_search.proofs.follow.refute_cases.Given as goal

abbrev pub invariant-loop-rows : goal.invariant-loop-rows
invariant-loop-rows g l =
    IsSame l.initial.stack l.stack
    × ((asks : List Formed) → Held (all_asked asks) l.initial.stack.rows l.initial.stack.wide
    → All (HasNoStore g.R.Rank) (over_each (trees_in (map plan_of l.trees)) l.fn.limit (choosing_each l.fn.place.number l.label l.value (take l.rows-index l.cases)) asks))
