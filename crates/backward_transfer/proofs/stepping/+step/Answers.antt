use Rattle.tree_unify.proofs.Building.{stopped_in}
use Rattle.tree_unify.proofs.Meeting.{node_size}
use Rattle.backward_transfer.proofs.stepping.+step.Goals as goal

pub returns-in-Err : goal.returns-in-Err
returns-in-Err g t c =
    let part = rw c.deref-in-Node.ensures at c.in-Err.ensures in
    rw c.in-Node.is (stopped_in _ _ part (node_size g.R.PartialEq.eq g.met.R.Rank.equal_law _ _ _).1 (λ fits. fits.1) (λ room. room))
