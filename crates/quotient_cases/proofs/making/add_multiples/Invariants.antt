use Rattle.std.proofs.Common.{◌≡◌, ◌++◌, take, map}
use Rattle.quotient_cases.specs.Cases.{multiple}
use Rattle.quotient_cases.proofs.making.add_multiples.Given as goal

-- the multiples of the cases so far were added
abbrev pub invariant-loop-case : goal.invariant-loop-case
invariant-loop-case l = l.made.items ≡ l.initial.made.items ++ map (multiple l.factor) (take l.case-index l.list)
