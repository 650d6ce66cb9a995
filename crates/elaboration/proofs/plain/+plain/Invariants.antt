use Rattle.std.proofs.Common.{◌≡◌, ◌≤◌, ◌++◌}
use Rattle.step_meaning.specs.Offsets.{all_offsets}
use Rattle.step_meaning.specs.Syntax.{list_of, parts}
use Rattle.call_meaning.specs.declared.statement.UnitBlock.{size-UnitBlock}
use Rattle.call_meaning.specs.Offsets.{offsets}
use Rattle.call_meaning.specs.Tables.{commands}
use Rattle.elaboration.specs.Elaborates.{plain}
use Rattle.elaboration.proofs.plain.+plain.Given as goal

abbrev pub decreases-plain_block : goal.decreases-plain_block
decreases-plain_block l = goal.size-plain_block l

abbrev pub decreases-plain_kind : goal.decreases-plain_kind
decreases-plain_kind l = goal.size-plain_kind l

-- the statements made so far, and then those of what is left, are all, and so are their offsets
abbrev pub invariant-plain_block-loop-left : goal.invariant-plain_block-loop-left
invariant-plain_block-loop-left l =
    (parts l.list.items ++ list_of (plain (commands l.left)) ≡ list_of (plain (commands l.fn.block)))
    × (all_offsets l.list.items ++ offsets l.left ≡ offsets l.fn.block)
    × (size-UnitBlock l.left ≤ size-UnitBlock l.fn.block)
