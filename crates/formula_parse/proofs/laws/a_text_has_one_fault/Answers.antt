use Rattle.formula_parse.proofs.Faulty.{one_fault}
use Rattle.formula_parse.proofs.laws.a_text_has_one_fault.Goals as goal

pub returns : goal.returns
returns c = one_fault c.trees_are_unique.ensures c.tokens_are_unique.ensures c.formulas_have_no_fault.ensures c.first_faults_agree.ensures
