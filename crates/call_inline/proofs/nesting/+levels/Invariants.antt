use Rattle.std.proofs.Common.{◌≡◌, ◌+◌, ◌*◌, ◌≤◌}
use Rattle.call_meaning.specs.Tables.{command, commands}
use Rattle.call_inline.specs.Levels.{calls_in, deepest, first_deep}
use Rattle.call_inline.proofs.Sizes.{size, size_of}
use Rattle.call_inline.proofs.nesting.+levels.Given as goal

abbrev pub decreases-levels_of : goal.decreases-levels_of
decreases-levels_of l = 2 * size (commands l.block.now) + 1

abbrev pub decreases-levels_at : goal.decreases-levels_at
decreases-levels_at l = 2 * size_of (command l.kind.now)

-- the levels so far and the calls of what is left make those of all
abbrev pub invariant-levels_of-loop-left : goal.invariant-levels_of-loop-left
invariant-levels_of-loop-left l = record {
  fewer : size (commands l.left) ≤ size (commands l.block);
  deepest : deepest l.levels l.most (calls_in l.left) ≡ deepest l.levels l.own (calls_in l.block);
  first : first_deep l.levels (calls_in l.left) ≡ first_deep l.levels (calls_in l.block);
}
