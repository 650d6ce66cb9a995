use Rattle.std.proofs.Common.{sym, ◌∙◌}
use Rattle.typed_expressions.proofs.Firsts.{first_is, none_is}
use Rattle.source_parse.specs.Expressions.{faults_as}
use Rattle.source_parse.proofs.expression.valued.Goals as goal

pub returns-in-Some : goal.returns-in-Some
returns-in-Some c = λ scope number e meaning least.
    (c.in-Some.fault, first_is (faults_as number scope e) c.in-Some.fault (sym least ∙ c.in-Some.is), c.of_names.ensures.numbered)

pub returns-in-None : goal.returns-in-None
returns-in-None c = λ scope number e meaning least. (none_is (faults_as number scope e) (sym least ∙ c.in-None.is), meaning)
