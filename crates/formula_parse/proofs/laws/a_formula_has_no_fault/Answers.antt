use Rattle.formula_parse.proofs.LawsOf.{formulas_have_no_fault}
use Rattle.formula_parse.proofs.laws.a_formula_has_no_fault.Goals as goal

pub returns : goal.returns
returns c = formulas_have_no_fault c.trees_are_unique.ensures c.formulas_have_no_fault.ensures
