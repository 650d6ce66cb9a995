use Rattle.std.proofs.Common.{[], None, false, map, refl, true}
use Rattle.decision_tree.specs.Plans.{plan_of}
use Rattle.tree_support.specs.Setting.{trees_in}
use Rattle.tree_check.specs.Rounds.{setting_on}
use Rattle.tree_check.proofs.Collecting.{cleared_supported, reviewed_wholly}
use Rattle.tree_check.proofs.Settling.{advances_none}
use Rattle.tree_check.proofs.Surveying.{held_empty}
use Rattle.tree_check.proofs.rounds.Premises.settle_at_once.Goals as goal

pub returns-in_err-found-clause-advances : goal.returns-in_err-found-clause-advances
returns-in_err-found-clause-advances g c = advances_none g.R.Rank (setting_on g.D.NumDomain c.args.self.now) (map plan_of c.args.trees.now) c.args.drops.now.items

pub give_up_each-requires-clause-found : goal.give_up_each-requires-clause-found
give_up_each-requires-clause-found g c =
    let reviewed = c.in_ok-found.ensures [] (held_empty c.new-nothing.result.rows c.new-nothing.result.wide c.new-nothing.ensures.rows c.new-nothing.ensures.wide) in
    rw c.deref.ensures.value reviewed.each

pub give_up_each-requires-clause-apart : goal.give_up_each-requires-clause-apart
give_up_each-requires-clause-apart g c =
    let reviewed = c.in_ok-found.ensures [] (held_empty c.new-nothing.result.rows c.new-nothing.result.wide c.new-nothing.ensures.rows c.new-nothing.ensures.wide) in
    rw c.deref.ensures.value reviewed.apart

pub returns-clause-supported : goal.returns-clause-supported
returns-clause-supported g c whole =
    let at = setting_on g.D.NumDomain c.args.self.now in
    let reviewed = c.in_ok-found.ensures [] (held_empty c.new-nothing.result.rows c.new-nothing.result.wide c.new-nothing.ensures.rows c.new-nothing.ensures.wide) in
    let cleared = rw c.deref.ensures.value at c.in_ok-give_up_each.ensures.cleared None in
    cleared_supported g.R.Rank at c.args.label (trees_in (map plan_of c.give_up_each.new.trees))
    (cleared
    (reviewed_wholly g.R.Rank at c.args.label (trees_in (map plan_of c.args.trees.now)) (record { first = 0; collects = true; narrows = false }) []
    c.in_ok-found.found.items refl refl refl reviewed))
