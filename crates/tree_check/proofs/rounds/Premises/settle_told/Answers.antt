use Rattle.std.proofs.Common.{map, rules}
use Rattle.decision_tree.specs.Plans.{plan_of}
use Rattle.tree_check.specs.Rounds.{setting_on}
use Rattle.tree_check.proofs.Settling.{advances_then, leaves_stay, same_length}
use Rattle.tree_check.proofs.rounds.Premises.settle_told.Goals as goal

pub settle_each-requires-clause-leaves : goal.settle_each-requires-clause-leaves
settle_each-requires-clause-leaves g c label =
    let is = leaves_stay g.R.Rank (setting_on g.D.NumDomain c.args.self.now) (map plan_of c.args.trees.now) (map plan_of c.loop-drops.trees) c.args.drops.now.items c.loop-drops.drops.items c.loop-drops.invariant.0 label in
    rw is (c.requires.leaves label)

pub returns-in_err-settle_each-clause-advances : goal.returns-in_err-settle_each-clause-advances
returns-in_err-settle_each-clause-advances g c =
    advances_then g.R.Rank (setting_on g.D.NumDomain c.args.self.now) (map plan_of c.args.trees.now) (map plan_of c.loop-drops.trees) (map plan_of c.settle_each.new.trees) c.args.drops.now.items c.loop-drops.drops.items c.settle_each.new.drops.items
    c.loop-drops.invariant.0 c.settle_each.ensures.advances

pub returns-then-len-before-clause-advances : goal.returns-then-len-before-clause-advances
returns-then-len-before-clause-advances g c =
    advances_then g.R.Rank (setting_on g.D.NumDomain c.args.self.now) (map plan_of c.args.trees.now) (map plan_of c.loop-drops.trees) (map plan_of c.settle_each.new.trees) c.args.drops.now.items c.loop-drops.drops.items c.settle_each.new.drops.items
    c.loop-drops.invariant.0 c.settle_each.ensures.advances

pub loop-drops-preserved : goal.loop-drops-preserved
loop-drops-preserved g c = (
  advances_then g.R.Rank (setting_on g.D.NumDomain c.args.self.now) (map plan_of c.args.trees.now) (map plan_of c.loop-drops.trees) (map plan_of c.settle_each.new.trees) c.args.drops.now.items c.loop-drops.drops.items c.settle_each.new.drops.items
      c.loop-drops.invariant.0 c.settle_each.ensures.advances,
  c.in_ok-settle_each.ensures.told,
)

pub returns-then-len-before-clause-supported : goal.returns-then-len-before-clause-supported
returns-then-len-before-clause-supported g c =
    c.in_ok-settle_each.ensures.supported (same_length g.R.Rank (setting_on g.D.NumDomain c.args.self.now) (map plan_of c.loop-drops.trees) (map plan_of c.settle_each.new.trees) c.loop-drops.drops.items c.settle_each.new.drops.items c.settle_each.ensures.advances
    (search rules))
