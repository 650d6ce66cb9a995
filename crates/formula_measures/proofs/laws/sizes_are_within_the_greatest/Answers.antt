use Rattle.formula_measures.proofs.Greatest.{parts_within, within_parts}
use Rattle.formula_measures.proofs.laws.sizes_are_within_the_greatest.Goals as goal

pub returns : goal.returns
returns c most body f = ((λ less. parts_within most body f less), (λ own. within_parts most body f own))
