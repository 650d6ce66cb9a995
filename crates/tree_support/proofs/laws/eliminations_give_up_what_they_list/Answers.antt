use Rattle.tree_support.proofs.Dropping.{listed, same_counts, same_paths, unlisted}
use Rattle.tree_support.proofs.laws.eliminations_give_up_what_they_list.Goals as goal

pub returns : goal.returns
returns g c =
    let ranks = g.R.Rank in record {
      listed = λ base old new drops legal. (listed ranks base drops old new legal).0;
      once = λ base old new drops legal. (listed ranks base drops old new legal).1;
      others = λ base old new drops legal. unlisted ranks base drops old new legal;
      paths = λ base old new drops legal. same_paths ranks base drops old new legal;
      leaves = λ base old new drops legal. same_counts ranks base drops old new legal;
    }
