-- The calls of a source or sink over memory, and which of them fail.
use Rattle.std.specs.Prelude.{ℕ, ◌+◌, ◌-◌, ◌^◌, min}

-- The number of the call that follows so many calls. Calls are numbered from 1, and from 2^64 - 1 on
-- the number stays, far past each number that a list of 32 bits can name.
abbrev pub next_call : ℕ → ℕ
next_call calls = min (calls + 1) (2 ^ 64 - 1)
