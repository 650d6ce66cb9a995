-- What one call did to its source and to its sink.
use Rattle.std.specs.Prelude.{ℕ, List, Option}

-- the bytes that the source had left and those that the sink had taken, where they tell them, their counts of faults, and how often each
-- adviser was asked: before the call and after it
pub record Call : Type 0 where
  pub left : Option (List ℕ)
  pub taken : Option (List ℕ)
  pub taken_after : Option (List ℕ)
  pub read_faults : ℕ
  pub read_faults_after : ℕ
  pub write_faults : ℕ
  pub write_faults_after : ℕ
  pub asked : List ℕ
  pub asked_after : List ℕ
