use Rattle.decision_tree.proofs.Replacing.{here, elsewhere, leaves_kept, paths_kept, size_kept, stores_kept}
use Rattle.decision_tree.proofs.laws.a_leaf_replaced_changes_no_other.Goals as goal

pub returns : goal.returns
returns g c = record { size = size_kept; leaves = leaves_kept; here = here; elsewhere = elsewhere; paths = paths_kept; stores = stores_kept }
