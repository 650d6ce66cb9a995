-- What a clause reads of a sink over memory.
use Rattle.std.specs.Prelude.{◌≡◌, ◌↔◌, ◌⊎◌, ◌+◌, ℕ, List, length, Contains}
use Rattle.outside.specs.Schedule.{next_call}
use Rattle.outside.specs.declared.memory.MemorySink.{MemorySink}
use Rattle.outside.specs.declared.writing.Put.{Put}
use Rattle.outside.specs.declared.writing.Put.TheVariants.{Failed}

-- the bytes that were taken
abbrev pub taken_bytes : MemorySink → List ℕ
taken_bytes sink = sink.taken.items

-- how many bytes more it takes
abbrev pub room_left : MemorySink → ℕ
room_left sink = sink.room

-- the number of the last call, 0 before the first
abbrev pub writes_made : MemorySink → ℕ
writes_made sink = sink.schedule.calls

-- the numbers of the calls that fail
abbrev pub failing_writes : MemorySink → List ℕ
failing_writes sink = sink.schedule.failing.items

-- how many calls failed, or the last value of the counter
abbrev pub write_faults : MemorySink → ℕ
write_faults sink = sink.faults

-- A write was the next call, it failed exactly where its number is one of those that fail or no room
-- was left, and bytes taken and room left stay the same in all.
pub record WritesOnSchedule (old new : MemorySink) (put : Put) : Type 0 where
  pub number : writes_made new ≡ next_call (writes_made old)
  pub same_numbers : failing_writes new ≡ failing_writes old
  pub fails : (put ≡ Failed) ↔ (Contains (failing_writes old) (writes_made new) ⊎ (room_left old ≡ 0))
  pub room : length (taken_bytes new) + room_left new ≡ length (taken_bytes old) + room_left old
