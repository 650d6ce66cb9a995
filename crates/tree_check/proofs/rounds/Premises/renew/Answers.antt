use Rattle.std.proofs.Common.{Some, map, refl, true}
use Rattle.decision_tree.specs.Plans.{plan_of}
use Rattle.tree_support.specs.Setting.{trees_in}
use Rattle.tree_check.specs.Rounds.{setting_on}
use Rattle.tree_check.proofs.Narrowing.{reviewed_narrowly}
use Rattle.tree_check.proofs.Settling.{advances_none}
use Rattle.tree_check.proofs.rounds.Premises.renew.Goals as goal

pub returns-in_err-found-clause-advances : goal.returns-in_err-found-clause-advances
returns-in_err-found-clause-advances g c = advances_none g.R.Rank (setting_on g.D.NumDomain c.args.self.now) (map plan_of c.args.trees.now) c.args.drops.now.items

pub returns-in_err-narrow-clause-advances : goal.returns-in_err-narrow-clause-advances
returns-in_err-narrow-clause-advances g c = advances_none g.R.Rank (setting_on g.D.NumDomain c.args.self.now) (map plan_of c.args.trees.now) c.args.drops.now.items

pub give_up_each-requires-clause-found : goal.give_up_each-requires-clause-found
give_up_each-requires-clause-found g c =
    let path = c.in_ok-narrow.ensures in
    let reviewed = c.in_ok-found.ensures path.0 path.1 in
    rw c.deref.ensures.value reviewed.each

pub give_up_each-requires-clause-apart : goal.give_up_each-requires-clause-apart
give_up_each-requires-clause-apart g c =
    let path = c.in_ok-narrow.ensures in
    let reviewed = c.in_ok-found.ensures path.0 path.1 in
    rw c.deref.ensures.value reviewed.apart

pub returns-clause-cleared : goal.returns-clause-cleared
returns-clause-cleared g c =
    let at = setting_on g.D.NumDomain c.args.self.now in
    let path = c.in_ok-narrow.ensures in
    let reviewed = c.in_ok-found.ensures path.0 path.1 in
    let cleared = rw c.deref.ensures.value at c.in_ok-give_up_each.ensures.cleared (Some c.args.dropped.now) in
    cleared
    (reviewed_narrowly g.R.Rank at (trees_in (map plan_of c.args.trees.now)) c.args.dropped.now c.args.label
    (record { first = 0; collects = true; narrows = true }) path.0 c.in_ok-found.found.items refl refl refl path.2 reviewed)
