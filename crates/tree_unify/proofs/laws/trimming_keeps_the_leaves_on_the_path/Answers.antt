use Rattle.tree_unify.proofs.Asking.{trimmed_leaf}
use Rattle.tree_unify.proofs.laws.trimming_keeps_the_leaves_on_the_path.Goals as goal

pub returns : goal.returns
returns g c = trimmed_leaf g.R.PartialEq.eq g.met.R.Rank.equal_law
