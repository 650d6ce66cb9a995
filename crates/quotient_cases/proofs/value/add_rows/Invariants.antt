use Rattle.std.proofs.Common.{◌≡◌, ◌++◌, take}
use Rattle.std.specs.List.{flat_map}
use Rattle.quotient_cases.specs.Cases.{rows_kept}
use Rattle.quotient_cases.proofs.value.add_rows.Given as goal

-- the rows of the cases so far were added
abbrev pub invariant-loop-case : goal.invariant-loop-case
invariant-loop-case l = l.list.items ≡ l.initial.list.items ++ flat_map (rows_kept l.place) (take l.case-index l.cases)
