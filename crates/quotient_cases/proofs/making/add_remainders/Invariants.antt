use Rattle.std.proofs.Common.{◌≡◌, ◌++◌, take}
use Rattle.std.specs.List.{flat_map}
use Rattle.quotient_cases.specs.Cases.{remainders}
use Rattle.quotient_cases.proofs.making.add_remainders.Given as goal

-- the remainders of the cases so far were added
abbrev pub invariant-loop-case : goal.invariant-loop-case
invariant-loop-case l = l.made.items ≡ l.initial.made.items ++ flat_map (remainders l.by l.whole) (take l.case-index l.list)
