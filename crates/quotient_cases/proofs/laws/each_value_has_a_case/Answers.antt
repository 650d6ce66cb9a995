use Rattle.quotient_cases.proofs.Covering.{values_cover}
use Rattle.quotient_cases.proofs.laws.each_value_has_a_case.Goals as goal

pub returns : goal.returns
returns c = values_cover
