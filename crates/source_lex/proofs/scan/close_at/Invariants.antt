use Rattle.std.proofs.Common.{ℕ, ◌-◌, ◌<◌, ◌≤◌, length}
use Rattle.source_lex.specs.Gaps.{ClosesBlock}
use Rattle.source_lex.proofs.scan.close_at.Given as goal

-- no `*/` begins before this offset
abbrev pub invariant-loop-at : goal.invariant-loop-at
invariant-loop-at l = record {
  forward : l.from ≤ l.at;
  within : l.at ≤ length l.text;
  none_before : (k : ℕ) → l.from ≤ k → k < l.at → ClosesBlock l.text k → ⊥;
}

abbrev pub decreases-loop-at : goal.decreases-loop-at
decreases-loop-at l = length l.text - l.at
