-- Faults that are found one behind the other.
use Rattle.std.proofs.Common.{List, ◌++◌, ap, sym, ◌∙◌}
use Rattle.typed_expressions.specs.declared.fault.Fault.{Fault}
use Rattle.typed_expressions.specs.declared.walk.Walk.{Walk}
use Rattle.typed_expressions.specs.Faults.{earliest}
use Rattle.typed_expressions.specs.Walking.{HasFound}
use Rattle.typed_expressions.proofs.Firsts.{earliest_more}

-- faults and then others, where the names stay
pub both_found : (a b c : Walk) (first second : List Fault) → HasFound a b first → HasFound b c second → HasFound a c (first ++ second)
both_found a b c first second one two = (
  two.0 ∙ one.0,
  two.1 ∙ one.1,
  two.2 ∙ ap (λ least. earliest least second) one.2 ∙ sym (earliest_more a.least first second),
)
