use Rattle.std.proofs.Common.{[], ◌∷◌, ◌++◌, subst, sym}
use Rattle.constraint_stack.specs.Stacks.{IsMetNowhere, IsTried, all_asked, asked}
use Rattle.constraint_stack.proofs.Holding.{held_more, nowhere_added}
use Rattle.leaf_search.proofs.Walking.{asked_more}
use Rattle.leaf_search.proofs.leaf.refute_with.Goals as goal

pub returns-then-not-branch-clause-tried : goal.returns-then-not-branch-clause-tried
returns-then-not-branch-clause-tried c asks held a forms =
    subst IsMetNowhere (sym (asked_more asks a))
    (nowhere_added (all_asked asks) c.args.stack.now.rows c.args.stack.now.wide (asked a) c.args.formed c.add.new.self.rows c.add.new.self.wide held forms
    (rw c.if-not-branch.true at c.in_ok-add.ensures))

pub returns-clause-tried : goal.returns-clause-tried
returns-clause-tried c asks held a forms =
    let more = held_more (all_asked asks) c.args.stack.now.rows c.args.stack.now.wide (asked a) c.args.formed c.add.new.self.rows c.add.new.self.wide held forms
    (rw c.if-not-branch.false at c.in_ok-add.ensures) in
    subst (λ items. IsTried items 2 c.in_ok-refuted.refuted c.check.new.found) (sym (asked_more asks a))
    (c.in_ok-refuted.ensures (all_asked asks ++ asked a ∷ []) more)
