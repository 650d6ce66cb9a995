use Rattle.formula_parse.proofs.LawsOf.{texts_are_unique}
use Rattle.formula_parse.proofs.laws.a_text_is_one_formula.Goals as goal

pub returns : goal.returns
returns c = texts_are_unique c.trees_are_unique.ensures
