use Rattle.std.proofs.Common.{◌-◌, arith, map}
use Rattle.std.proofs.lemmas.Grind.{common_steps}
use Rattle.std.proofs.lemmas.List.{length-map}
use Rattle.decision_tree.specs.Plans.{plan_of}
use Rattle.tree_check.specs.Rounds.{setting_on}
use Rattle.tree_check.proofs.Settling.{advances_none, advances_then, leaves_stay, past_supported, supported_more}
use Rattle.tree_check.proofs.rounds.Premises.settle_each.Goals as goal

pub loop-label-init : goal.loop-label-init
loop-label-init g c = (
  advances_none g.R.Rank (setting_on g.D.NumDomain c.args.self.now) (map plan_of c.args.trees.now) c.args.drops.now.items,
  λ same label past. let count = length-map c.args.trees.now plan_of in
      past_supported g.R.Rank (setting_on g.D.NumDomain c.args.self.now) (map plan_of c.args.trees.now) label
      (omega (arith, count, past, c.requires.trees, c.labels-label.ensures.count)),
  c.requires.told,
)

pub visit-requires-clause-leaves : goal.visit-requires-clause-leaves
visit-requires-clause-leaves g c label =
    let is = leaves_stay g.R.Rank (setting_on g.D.NumDomain c.args.self.now) (map plan_of c.args.trees.now) (map plan_of c.loop-label.trees) c.args.drops.now.items c.loop-label.drops.items c.loop-label.invariant.0 label in
    rw is (c.requires.leaves label)

pub returns-in_err-visit-clause-advances : goal.returns-in_err-visit-clause-advances
returns-in_err-visit-clause-advances g c =
    advances_then g.R.Rank (setting_on g.D.NumDomain c.args.self.now) (map plan_of c.args.trees.now) (map plan_of c.loop-label.trees) (map plan_of c.visit.new.trees) c.args.drops.now.items c.loop-label.drops.items c.visit.new.drops.items
    c.loop-label.invariant.0 c.visit.ensures.advances

pub loop-label-preserved : goal.loop-label-preserved
loop-label-preserved g c = (
  advances_then g.R.Rank (setting_on g.D.NumDomain c.args.self.now) (map plan_of c.args.trees.now) (map plan_of c.loop-label.trees) (map plan_of c.visit.new.trees) c.args.drops.now.items c.loop-label.drops.items c.visit.new.drops.items
      c.loop-label.invariant.0 c.visit.ensures.advances,
  λ same. supported_more g.R.Rank (setting_on g.D.NumDomain c.args.self.now) (map plan_of c.args.trees.now) (map plan_of c.loop-label.trees) (map plan_of c.visit.new.trees) c.args.drops.now.items c.loop-label.drops.items c.visit.new.drops.items
      c.loop-label.label (c.loop-label.label - 1) (omega arith) c.loop-label.invariant.0 c.visit.ensures.advances same c.loop-label.invariant.1 c.in_ok-visit.ensures.supported,
  c.in_ok-visit.ensures.told,
)

pub returns-clause-supported : goal.returns-clause-supported
returns-clause-supported g c same label =
    let start = c.loop-label-test.false in
    c.loop-label.invariant.1 same label (omega (arith, start))

pub loop-label-smaller : goal.loop-label-smaller
loop-label-smaller g c = grind (arith, common_steps)
