use Rattle.std.proofs.Common.{◌≡◌, ◌++◌, take}
use Rattle.quotient_cases.specs.Cases.{sums}
use Rattle.quotient_cases.proofs.making.add_sums.Given as goal

-- the sums of the cases so far were added
abbrev pub invariant-loop-case : goal.invariant-loop-case
invariant-loop-case l = l.made.items ≡ l.initial.made.items ++ sums (take l.case-index l.first) l.second
