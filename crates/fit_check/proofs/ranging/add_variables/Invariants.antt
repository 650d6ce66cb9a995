use Rattle.std.proofs.Common.{◌≡◌, ◌++◌}
use Rattle.fit_check.specs.Ranges.{variable_rows}
use Rattle.fit_check.proofs.ranging.add_variables.Given as goal

abbrev pub invariant-loop-place : goal.invariant-loop-place
invariant-loop-place l = l.kinds.items ≡ l.initial.kinds.items ++ variable_rows l.place
