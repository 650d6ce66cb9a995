use Rattle.formula_parse.proofs.LawsOf.{complements_of_texts_fit}
use Rattle.formula_parse.proofs.laws.complements_of_texts_fit.Goals as goal

pub returns : goal.returns
returns c = complements_of_texts_fit
