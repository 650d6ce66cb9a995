use Rattle.std.proofs.Common.{◌≡◌, vec_len, map}
use Rattle.concrete_syntax.specs.Trees.{none}
use Rattle.concrete_syntax.specs.Mirror.{items, item}
use Rattle.concrete_syntax.specs.Chains.{items_of}
use Rattle.concrete_syntax.proofs.statement.Items.of.Given as goal

-- the items still in the list, and then those that are made, are all
abbrev pub invariant-loop-last : goal.invariant-loop-last
invariant-loop-last l = items_of (map item l.fn.list.items) none ≡ items_of (map item l.list.items) (items l.made)

abbrev pub decreases-loop-last : goal.decreases-loop-last
decreases-loop-last l = vec_len l.list
