use Rattle.std.proofs.Common.{◌≡◌, ◌-◌, ◌^◌, min}
use Rattle.linear_cons.specs.Sizes.{sizes_below}
use Rattle.step_meaning.proofs.function.total_size.Given as goal

-- the sum so far is that of the sizes below the place
abbrev pub invariant-loop-place : goal.invariant-loop-place
invariant-loop-place l = l.sum ≡ min (sizes_below l.place l.function) (2 ^ 128 - 1)
