use Rattle.std.proofs.Common.{◌+◌, ◌*◌, ◌≤◌, List}
use Rattle.step_meaning.specs.declared.statement.Stmt.{Stmt}
use Rattle.call_meaning.specs.Tables.{command, commands}
use Rattle.call_inline.specs.Inlined.{all_inlined, callees}
use Rattle.call_inline.specs.Laws.Standing.{routines}
use Rattle.call_inline.specs.Laws.Writing.{AllCanStand, AreAdded, ending_of, returns_at}
use Rattle.call_inline.specs.Placed.{placed, placed_calls}
use Rattle.call_inline.proofs.Sizes.{size, size_of, weight}
use Rattle.call_inline.proofs.writer.+writer.Given as goal

abbrev pub decreases-block : goal.decreases-block
decreases-block l = weight (routines l.unit.now) l.spot.function + (3 * size (commands l.from.now) + 2)

abbrev pub decreases-add_all : goal.decreases-add_all
decreases-add_all l = weight (routines l.unit.now) l.spot.function + (3 * size (commands l.from.now) + 1)

abbrev pub decreases-add_one : goal.decreases-add_one
decreases-add_one l = weight (routines l.unit.now) l.spot.function + 3 * size_of (command l.kind.now)

abbrev pub decreases-add_call : goal.decreases-add_call
decreases-add_call l = weight (routines l.unit.now) l.spot.function + 2

-- what is left added to the list so far is what all adds to the first list
abbrev pub invariant-add_all-loop-left : goal.invariant-add_all-loop-left
invariant-add_all-loop-left l = record {
  fewer : size (commands l.left) ≤ size (commands l.from);
  stands : AllCanStand (routines l.unit) l.spot.function (commands l.left);
  added : (after : List Stmt)
      → AreAdded (all_inlined (callees (routines l.unit) l.spot.function) l.spot.base (ending_of l.spot.ending) (commands l.left))
      (placed (placed_calls l.unit.funcs l.spot.function) (returns_at l.spot.ending) l.left) l.list.items after
      → AreAdded (all_inlined (callees (routines l.unit) l.spot.function) l.spot.base (ending_of l.spot.ending) (commands l.from))
      (placed (placed_calls l.unit.funcs l.spot.function) (returns_at l.spot.ending) l.from) l.initial.list.items after;
}
