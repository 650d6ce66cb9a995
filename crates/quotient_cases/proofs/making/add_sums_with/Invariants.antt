use Rattle.std.proofs.Common.{◌≡◌, ◌++◌, take, map}
use Rattle.quotient_cases.specs.Cases.{sum}
use Rattle.quotient_cases.proofs.making.add_sums_with.Given as goal

-- the sums with the cases so far were added
abbrev pub invariant-loop-other : goal.invariant-loop-other
invariant-loop-other l = l.made.items ≡ l.initial.made.items ++ map (sum l.case) (take l.other-index l.others)
