use Rattle.std.proofs.Common.{ℕ, ◌+◌, ◌*◌, ◌≤◌, Result}
use Rattle.call_meaning.specs.Tables.{command, commands}
use Rattle.call_inline.specs.Laws.Standing.{AllGoBelow, Takes, back_of, routines}
use Rattle.call_inline.specs.Placed.{placed, placed_calls}
use Rattle.call_inline.proofs.Sizes.{size, size_of, weight}
use Rattle.call_inline.proofs.room.+rooms.Given as goal

abbrev pub decreases-room_behind : goal.decreases-room_behind
decreases-room_behind l = weight (routines l.unit.now) l.function + (3 * size (commands l.block.now) + 1)

abbrev pub decreases-room_behind_one : goal.decreases-room_behind_one
decreases-room_behind_one l = weight (routines l.unit.now) l.function + 3 * size_of (command l.kind.now)

abbrev pub decreases-room_behind_call : goal.decreases-room_behind_call
decreases-room_behind_call l = weight (routines l.unit.now) l.function + 2

-- what is left takes of the room that is left what all takes of the first room
abbrev pub invariant-room_behind-loop-left : goal.invariant-room_behind-loop-left
invariant-room_behind-loop-left l = record {
  fewer : size (commands l.left) ≤ size (commands l.block);
  calls : AllGoBelow l.function (commands l.left);
  takes : (result : Result ℕ ℕ) → Takes (placed (placed_calls l.unit.funcs l.function) (back_of l.back) l.left) l.room result
      → Takes (placed (placed_calls l.unit.funcs l.function) (back_of l.back) l.block) l.room-2 result;
}
