use Rattle.tree_support.specs.Setting.{trees_in}
use Rattle.count_down.proofs.Over.{complements_fit, over_spares, trees_fine}
use Rattle.count_down.proofs.laws.candidates_are_over_the_variables.Goals as goal

pub returns : goal.returns
returns c = record {
  over = λ vars body trees few_vars sorted few candidate label. let fine = trees_fine vars few_vars body trees sorted few candidate label in fine.0;
  spares = λ vars body trees few_vars sorted few candidate label.
      let fine = trees_fine vars few_vars body trees sorted few candidate label in over_spares vars 15 few_vars (trees_in trees label) fine.0;
  complements = λ vars body trees few_vars sorted few candidate label. let fine = trees_fine vars few_vars body trees sorted few candidate label in
      fine.1;
  paths = λ vars body trees few_vars sorted few candidate label leaf.
      let fine = trees_fine vars few_vars body trees sorted few candidate label in complements_fit (trees_in trees label) fine.1 leaf;
  leaves = λ vars body trees few_vars sorted few candidate label. let fine = trees_fine vars few_vars body trees sorted few candidate label in fine.2;
}
