use Rattle.std.proofs.Common.{◌≡◌, ◌+◌, List, drop, length, map, replicate}
use Rattle.step_meaning.specs.declared.statement.Stmt.{Stmt}
use Rattle.step_meaning.specs.Syntax.{expression}
use Rattle.call_inline.specs.Inlined.{all_moved, passed}
use Rattle.call_inline.specs.Laws.Writing.{AreAdded}
use Rattle.call_inline.proofs.writer.add_arguments.Given as goal

-- the arguments that are left added to the list so far are what all add to the first list
abbrev pub invariant-loop-arg : goal.invariant-loop-arg
invariant-loop-arg l = record {
  place : l.place ≡ l.base + l.arg-index;
  added : (after : List Stmt)
      → AreAdded (passed l.place (all_moved l.from (map expression (drop l.arg-index l.args)))) (replicate (length (drop l.arg-index l.args)) l.at) l.list.items after
      → AreAdded (passed l.base (all_moved l.from (map expression l.args))) (replicate (length l.args) l.at) l.initial.list.items after;
}
