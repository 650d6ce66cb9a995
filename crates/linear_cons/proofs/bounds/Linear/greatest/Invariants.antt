use Rattle.std.proofs.Common.{◌≡◌}
use Rattle.linear_cons.specs.Bounds.{lower_end, upper_end}
use Rattle.linear_cons.specs.Ends.{terms_end}
use Rattle.linear_cons.proofs.bounds.Linear.greatest.Given as goal

-- the end so far is that of the terms below the place
abbrev pub invariant-loop-place : goal.invariant-loop-place
invariant-loop-place l = l.end ≡ terms_end l.place l.self.affine (upper_end l.bounds) (lower_end l.bounds)
