use Rattle.decision_tree.specs.Plans.{plan_of}
use Rattle.tree_unify.proofs.Building.{handed_on, stopped_in}
use Rattle.backward_transfer.specs.Ranges.{asking_second}
use Rattle.backward_transfer.proofs.Making.{asked_rest}
use Rattle.backward_transfer.proofs.ranging.ask.Goals as goal

pub returns-in_err-rest : goal.returns-in_err-rest
returns-in_err-rest g c =
    let part = rw c.deref.ensures at c.in_err-rest.ensures in
    let least = asked_rest g.R.PartialEq.eq g.met.R.Rank.equal_law c.args.holds.now (plan_of c.args.yes.value) (asking_second g.R.PartialEq.eq g.R.Rank c.args.fails.now (plan_of c.args.yes.value) (plan_of c.args.no.value)).plan c.requires.holds in
    handed_on _ _ c.from_residual.result c.from_residual.ensures.0 (stopped_in _ _ part least (λ fits. fits) (λ room. room))
