use Rattle.std.proofs.Common.{ap, arith, length, map, ◌∙◌}
use Rattle.std.proofs.lemmas.Grind.{common_steps}
use Rattle.std.proofs.lemmas.List.{length-append}
use Rattle.decision_tree.specs.Plans.{plan_of}
use Rattle.tree_check.specs.Rounds.{setting_on}
use Rattle.tree_check.proofs.Settling.{advances_then, leaves_stay}
use Rattle.tree_check.proofs.Telling.{next_told}
use Rattle.tree_check.proofs.rounds.Premises.tell_each.Goals as goal

pub loop-number-preserved : goal.loop-number-preserved
loop-number-preserved g c = (
  advances_then g.R.Rank (setting_on g.D.NumDomain c.args.self.now) (map plan_of c.args.trees.now) (map plan_of c.loop-number.trees) (map plan_of c.tell.new.trees) c.args.drops.now.items c.loop-number.drops.items c.tell.new.drops.items
      c.loop-number.invariant.0 c.tell.ensures.advances,
  next_told g.R.Rank (setting_on g.D.NumDomain c.args.self.now) (map plan_of c.loop-number.trees) (map plan_of c.tell.new.trees) c.loop-number.drops.items c.tell.new.drops.items
      c.index.result.now _ c.loop-number.number c.args.label c.tell.ensures.advances (let low = c.loop-number-test.true in omega (arith, low)) c.index.ensures
      c.in_ok-tell.ensures.cleared c.loop-number.invariant.1,
)

pub loop-number-smaller : goal.loop-number-smaller
loop-number-smaller g c =
    let advances = c.tell.ensures.advances in
    let fewer = advances.fewer in
    let count = ap length advances.listed ∙ length-append c.loop-number.drops.items advances.more in
    let low = c.loop-number-test.true in
    omega (arith, fewer, count, low)

pub tell-requires-clause-leaves : goal.tell-requires-clause-leaves
tell-requires-clause-leaves g c label =
    let is = leaves_stay g.R.Rank (setting_on g.D.NumDomain c.args.self.now) (map plan_of c.args.trees.now) (map plan_of c.loop-number.trees) c.args.drops.now.items c.loop-number.drops.items c.loop-number.invariant.0 label in
    rw is (c.requires.leaves label)

pub returns-clause-told : goal.returns-clause-told
returns-clause-told g c =
    let end = c.loop-number-test.false in
    let within = c.loop-number.invariant.1.0 in
    (omega (arith, end, within), c.loop-number.invariant.1)

pub returns-in_err-tell-clause-advances : goal.returns-in_err-tell-clause-advances
returns-in_err-tell-clause-advances g c =
    advances_then g.R.Rank (setting_on g.D.NumDomain c.args.self.now) (map plan_of c.args.trees.now) (map plan_of c.loop-number.trees) (map plan_of c.tell.new.trees) c.args.drops.now.items c.loop-number.drops.items c.tell.new.drops.items
    c.loop-number.invariant.0 c.tell.ensures.advances

pub index-requires : goal.index-requires
index-requires g c = grind (arith, common_steps)
