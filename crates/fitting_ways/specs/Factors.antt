-- The product that bounds how large the numbers of a candidate's rows may be.
use Rattle.std.specs.Prelude.{ℕ, ◌+◌, ◌*◌, ◌^◌, ◌≤◌, ◌⊎◌}
use Rattle.linear_cons.specs.Sizes.{total_size}
use Rattle.step_meaning.specs.Countdown.{form_of}
use Rattle.step_meaning.specs.Counts.{HasNoLoop}
use Rattle.step_meaning.specs.Syntax.{Statements, assign, sequence}

-- the product of the factors of the assignments in front of the loop, each 1 more than the total size of what is assigned
abbrev pub factors : Statements → ℕ
factors (sequence (assign x v) more) = (1 + total_size (form_of v)) * factors more
factors other = 1

-- there is no loop, or the product is at most 2^28
abbrev pub HasSmallFactors : Statements → Type 0
HasSmallFactors body = HasNoLoop body ⊎ (factors body ≤ 2 ^ 28)
