use Rattle.std.proofs.Common.{◌≡◌, ◌++◌, vec_len}
use Rattle.call_meaning.specs.Tables.{commands, parts}
use Rattle.call_meaning.specs.Offsets.{offsets, all_offsets, levels, all_levels}
use Rattle.call_meaning.proofs.Listing.{list_of}
use Rattle.call_meaning.proofs.statement.UnitBlock.of.Given as goal

-- the statements still in the list, and then those of the block, are all, and so are their offsets and the levels at their calls
abbrev pub invariant-loop-last : goal.invariant-loop-last
invariant-loop-last l =
    (parts l.fn.list.items ≡ parts l.list.items ++ list_of (commands l.block))
    × (all_offsets l.fn.list.items ≡ all_offsets l.list.items ++ offsets l.block)
    × (all_levels l.fn.list.items ≡ all_levels l.list.items ++ levels l.block)

abbrev pub decreases-loop-last : goal.decreases-loop-last
decreases-loop-last l = vec_len l.list
