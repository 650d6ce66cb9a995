use Rattle.std.proofs.Common.{◌≡◌, ◌++◌, vec_len}
use Rattle.step_meaning.specs.Syntax.{statements, list_of, parts}
use Rattle.step_meaning.specs.Offsets.{offsets, all_offsets}
use Rattle.step_meaning.proofs.statement.Block.of.Given as goal

-- the statements still in the list, and then those of the block, are all, and so are their offsets
abbrev pub invariant-loop-last : goal.invariant-loop-last
invariant-loop-last l =
    (parts l.fn.list.items ≡ parts l.list.items ++ list_of (statements l.block))
    × (all_offsets l.fn.list.items ≡ all_offsets l.list.items ++ offsets l.block)

abbrev pub decreases-loop-last : goal.decreases-loop-last
decreases-loop-last l = vec_len l.list
