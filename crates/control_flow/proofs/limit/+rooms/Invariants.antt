use Rattle.std.proofs.Common.{◌≡◌, ◌+◌, ◌*◌, ℕ}
use Rattle.std.specs.List.{slice_get}
use Rattle.step_meaning.specs.Syntax.{statements, statement, size_of, size_of_statement}
use Rattle.step_meaning.specs.Offsets.{offsets}
use Rattle.control_flow.proofs.limit.+rooms.Given as goal

abbrev pub decreases-room_behind : goal.decreases-room_behind
decreases-room_behind l = 3 * size_of (statements l.block.now) + 1

abbrev pub decreases-room_behind_one : goal.decreases-room_behind_one
decreases-room_behind_one l = 3 * size_of_statement (statement l.stmt.now.kind)

abbrev pub decreases-room_behind_both : goal.decreases-room_behind_both
decreases-room_behind_both l = 3 * size_of (statements l.first.now) + 3 * size_of (statements l.second.now) + 2

-- what was passed took its room, and the offsets behind it are those of what is left
abbrev pub invariant-room_behind-loop-left : goal.invariant-room_behind-loop-left
invariant-room_behind-loop-left l =
    (passed : ℕ) × (size_of (statements l.block) ≡ passed + size_of (statements l.left)) × (passed + l.room ≡ l.initial.room)
    × ((n : ℕ) → slice_get (offsets l.block) (passed + n) ≡ slice_get (offsets l.left) n)
