use Rattle.tree_check.specs.Rounds.{setting_on}
use Rattle.tree_check.proofs.Walked.{walk_advances, walk_clears}
use Rattle.tree_check.proofs.rounds.Premises.give_up_each.Goals as goal

pub returns-in_err-give_up_within-clause-advances : goal.returns-in_err-give_up_within-clause-advances
returns-in_err-give_up_within-clause-advances g c =
    walk_advances g.R.Rank (setting_on g.D.NumDomain c.args.self.now) c.args.label c.requires.elsewhere c.args.trees.now c.index-trees-label.result
    c.give_up_within.new.tree c.args.drops.now.items c.give_up_within.new.drops.items c.args.found.now c.give_up_within.new.at.next c.requires.label c.requires.apart
    c.requires.found c.give_up_within.ensures.walked

pub returns-clause-advances : goal.returns-clause-advances
returns-clause-advances g c =
    walk_advances g.R.Rank (setting_on g.D.NumDomain c.args.self.now) c.args.label c.requires.elsewhere c.args.trees.now c.index-trees-label.result
    c.give_up_within.new.tree c.args.drops.now.items c.give_up_within.new.drops.items c.args.found.now c.give_up_within.new.at.next c.requires.label c.requires.apart
    c.requires.found c.give_up_within.ensures.walked

pub returns-clause-cleared : goal.returns-clause-cleared
returns-clause-cleared g c told cleared =
    walk_clears g.R.Rank (setting_on g.D.NumDomain c.args.self.now) c.args.label c.requires.elsewhere c.args.trees.now c.index-trees-label.result
    c.give_up_within.new.tree c.args.drops.now.items c.give_up_within.new.drops.items c.args.found.now c.give_up_within.new.at.next c.requires.label c.requires.apart
    c.requires.found c.give_up_within.ensures.walked c.give_up_within.new.at.passed c.in_ok-give_up_within.ensures.passed
    c.in_ok-give_up_within.ensures.to_come told cleared
