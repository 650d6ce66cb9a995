use Rattle.std.proofs.Common.{◌≡◌, ◌≤◌, length, take}
use Rattle.call_meaning.specs.Tables.{places_from}
use Rattle.call_inline.proofs.room.count_free.Given as goal

abbrev pub invariant-loop-is_free : goal.invariant-loop-is_free
invariant-loop-is_free l = record {
  few : l.count ≤ l.is_free-index;
  counted : l.count ≡ length (places_from 0 (take l.is_free-index l.free));
}
