use Rattle.std.proofs.Common.{◌≡◌, ◌+◌, length, replicate, take}
use Rattle.call_meaning.specs.Tables.{places_from}
use Rattle.call_inline.specs.Inlined.{freed}
use Rattle.call_inline.specs.Laws.Writing.{AreAdded}
use Rattle.call_inline.proofs.writer.add_choices.Given as goal

abbrev pub invariant-loop-is_free : goal.invariant-loop-is_free
invariant-loop-is_free l = record {
  place : l.place ≡ l.base + l.is_free-index;
  added : AreAdded (freed l.base (places_from 0 (take l.is_free-index l.free))) (replicate (length (places_from 0 (take l.is_free-index l.free))) l.at) l.initial.list.items
      l.list.items;
}
