use Rattle.std.proofs.Common.{rules, arith}
use Rattle.std.proofs.lemmas.Grind.{common_steps}
use Rattle.decision_tree.specs.Plans.{plan_of}
use Rattle.tree_unify.proofs.Building.{handed_on}
use Rattle.backward_transfer.proofs.Parts.{no_stopped, yes_stopped}
use Rattle.backward_transfer.proofs.ranging.+spread_over.Goals as goal

pub returns-in_err-first-in-Node : goal.returns-in_err-first-in-Node
returns-in_err-first-in-Node g t c =
    let part = rw c.deref-in-Node-2.ensures at c.in_err-first-in-Node.ensures in
    rw c.in-Node.is (handed_on _ _ c.from_residual-in_err-first-in-Node.result c.from_residual-in_err-first-in-Node.ensures.0
    (yes_stopped g.R.PartialEq.eq g.R.Rank c.args.place c.args.range.now c.in-Node.row (plan_of c.in-Node.yes.value) (plan_of c.in-Node.no.value) (search rules) (search rules) part))

pub returns : goal.returns
returns g t c =
    let part = rw c.deref-in-Node-3.ensures at c.in-Err.ensures in
    rw c.in-Node.is
    (no_stopped g.R.PartialEq.eq g.R.Rank c.args.place c.args.range.now c.in-Node.row (plan_of c.in-Node.yes.value) (plan_of c.in-Node.no.value) (search rules) (search rules) part)

pub returns-in-Bottom : goal.returns-in-Bottom
returns-in-Bottom g c = grind (arith, common_steps)

pub returns-in-Leaf : goal.returns-in-Leaf
returns-in-Leaf g c = grind (arith, common_steps)

pub holds_throughout-requires : goal.holds_throughout-requires
holds_throughout-requires g c = grind (arith, common_steps)

pub fails_throughout-requires : goal.fails_throughout-requires
fails_throughout-requires g c = grind (arith, common_steps)
