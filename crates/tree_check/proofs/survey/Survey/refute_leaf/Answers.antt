use Rattle.std.proofs.Common.{arith, map}
use Rattle.decision_tree.specs.Plans.{leaf, plan_of}
use Rattle.tree_support.specs.Setting.{trees_in}
use Rattle.tree_check.proofs.Surveying.{surveyed_before, surveyed_leaf, surveyed_refuted}
use Rattle.tree_check.proofs.survey.Survey.refute_leaf.Goals as goal

pub returns-then-progress-self-clause-surveyed : goal.returns-then-progress-self-clause-surveyed
returns-then-progress-self-clause-surveyed g c at is_at asks held within =
    let before = c.if-progress-self.true in
    surveyed_before g.R.Rank at (trees_in (map plan_of c.args.self.now.stand.family.now)) c.args.self.now.stand.label c.args.self.now.span (leaf c.args.why.now c.args.rank.now) asks within
    c.args.progress.now.passed c.args.progress.now.refuted.items (λ looks. omega (arith, before))

pub returns-then-is_done-clause-surveyed : goal.returns-then-is_done-clause-surveyed
returns-then-is_done-clause-surveyed g c at is_at asks held within =
    let done = rw c.deref.ensures.value at c.is_done.ensures c.if-is_done.true in
    surveyed_before g.R.Rank at (trees_in (map plan_of c.args.self.now.stand.family.now)) c.args.self.now.stand.label c.args.self.now.span (leaf c.args.why.now c.args.rank.now) asks within
    c.args.progress.now.passed c.args.progress.now.refuted.items (λ looks. absurd (done looks))

pub returns-then-not-branch-clause-surveyed : goal.returns-then-not-branch-clause-surveyed
returns-then-not-branch-clause-surveyed g c at is_at asks held within =
    let searched = rw (c.why-reason.ensures, c.deref-rank.ensures, c.if-not-branch.true) at c.in_ok-refute_leaf.ensures.searched at is_at asks held in
    surveyed_leaf g.R.Rank at (trees_in (map plan_of c.args.self.now.stand.family.now)) c.args.self.now.stand.label c.args.self.now.span c.args.why.now c.args.rank.now asks within
    c.args.progress.now.passed c.args.progress.now.refuted.items searched

pub returns-in_default-clause-surveyed : goal.returns-in_default-clause-surveyed
returns-in_default-clause-surveyed g c at is_at asks held within =
    let searched = rw (c.why-reason.ensures, c.deref-rank.ensures, c.if-not-branch.false, c.in_default.is) at c.in_ok-refute_leaf.ensures.searched at is_at asks held in
    absurd searched

pub returns-clause-surveyed : goal.returns-clause-surveyed
returns-clause-surveyed g c at is_at asks held within =
    let searched = rw (c.why-reason.ensures, c.deref-rank.ensures, c.if-not-branch.false, c.in-Some.is) at c.in_ok-refute_leaf.ensures.searched at is_at asks held in
    surveyed_refuted g.R.Rank at (trees_in (map plan_of c.args.self.now.stand.family.now)) c.args.self.now.stand.label c.args.self.now.span c.args.why.now c.args.rank.now asks within
    c.args.progress.now.passed c.args.progress.now.refuted.items c.push.new.self.items c.in-Some.finding c.in_ok-push.ensures.items searched
