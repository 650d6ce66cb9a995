-- What a clause reads of a source over memory.
use Rattle.std.specs.Prelude.{◌≡◌, ◌↔◌, ℕ, List, drop, Contains}
use Rattle.outside.specs.Schedule.{next_call}
use Rattle.outside.specs.declared.memory.MemorySource.{MemorySource}
use Rattle.outside.specs.declared.reading.Got.{Got}
use Rattle.outside.specs.declared.reading.Got.TheVariants.{Failed}

-- the bytes that are left
abbrev pub left_bytes : MemorySource → List ℕ
left_bytes source = drop source.position source.bytes.items

-- the number of the last call, 0 before the first
abbrev pub reads_made : MemorySource → ℕ
reads_made source = source.schedule.calls

-- the numbers of the calls that fail
abbrev pub failing_reads : MemorySource → List ℕ
failing_reads source = source.schedule.failing.items

-- how many calls failed, or the last value of the counter
abbrev pub read_faults : MemorySource → ℕ
read_faults source = source.faults

-- A read was the next call, and it failed exactly where its number is one of those that fail.
pub record ReadsOnSchedule (old new : MemorySource) (got : Got) : Type 0 where
  pub number : reads_made new ≡ next_call (reads_made old)
  pub same_numbers : failing_reads new ≡ failing_reads old
  pub fails : (got ≡ Failed) ↔ Contains (failing_reads old) (reads_made new)
