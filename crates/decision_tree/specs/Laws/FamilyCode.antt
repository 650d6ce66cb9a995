-- A code for families, by which lists of them can be seen as lists.
use Rattle.std.proofs.Common.{ℕ, List, refl}
use Rattle.std.specs.Coded.{Coded, code_by, coded_list, coded_ℕ, coded×}
use Rattle.decision_tree.specs.declared.family.Family.{Family}
use Rattle.decision_tree.specs.Laws.PlanCode.{plan_code}
use Rattle.decision_tree.specs.Plans.{Plan}

abbrev pub family_code : {R : Type 0} → Coded R → Coded (Family R)
family_code {R} code =
    code_by (ℕ × List (Plan R)) (coded× coded_ℕ (coded_list (plan_code code))) (λ family. (family.part, family.trees))
    (λ both. record { part = both.0; trees = both.1 }) (λ family. refl)
