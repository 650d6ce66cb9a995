use Rattle.std.proofs.Common.{ℕ, ◌-◌, ◌<◌, ◌≤◌, length, slice_index, IsTrue}
use Rattle.source_lex.specs.ByteClass.{has}
use Rattle.source_lex.proofs.scan.run_end.Given as goal

-- each byte from the start up to here is of the class
abbrev pub invariant-loop-at : goal.invariant-loop-at
invariant-loop-at l = record {
  forward : l.from ≤ l.at;
  within : l.at ≤ length l.text;
  each : (k : ℕ) → l.from ≤ k → k < l.at → IsTrue (has l.class (slice_index l.text k));
}

abbrev pub decreases-loop-at : goal.decreases-loop-at
decreases-loop-at l = length l.text - l.at
