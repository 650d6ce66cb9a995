use Rattle.tree_support.proofs.Telling.{told_is_true}
use Rattle.tree_support.proofs.laws.invariants_tell_the_truth.Goals as goal

pub returns : goal.returns
returns g c =
    let domain = g.D.NumDomain in
    let laws = g.met.D.NumDomain in
    told_is_true domain.has domain.told_bounds domain.told_rows domain.seen_empty laws.bounds_law laws.rows_law laws.empty_law
