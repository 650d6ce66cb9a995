use Rattle.std.proofs.Common.{◌≤◌, ◌++◌, length, Ok, subst, arith}
use Rattle.std.proofs.lemmas.List.{take_all}
use Rattle.constraint_stack.specs.Stacks.{Held, all_chosen}
use Rattle.constraint_stack.proofs.Choosing.{chosen_nowhere, chosen_some, rows_longer, wide_longer}
use Rattle.constraint_stack.proofs.claim.add_each.Goals as goal

pub returns-then-not-branch-clause-longer : goal.returns-then-not-branch-clause-longer
returns-then-not-branch-clause-longer c =
    let adds = rw c.if-not-branch.true at c.in_ok-add.ensures in (
      rows_longer c.args.stack.now.rows c.loop-kind.stack.rows c.add.new.self.rows (Ok _) c.loop-kind.stack.wide c.add.new.self.wide _ c.loop-kind.invariant.0.0 adds,
      wide_longer c.args.stack.now.wide c.loop-kind.stack.wide c.add.new.self.wide (Ok _) c.loop-kind.stack.rows c.add.new.self.rows _ c.loop-kind.invariant.0.1 adds,
    )

pub returns-then-not-branch-clause-nowhere : goal.returns-then-not-branch-clause-nowhere
returns-then-not-branch-clause-nowhere c same items held =
    let adds = rw c.if-not-branch.true at c.in_ok-add.ensures in
    chosen_nowhere items c.args.kinds.now c.loop-kind.kind-index c.kind-item.result c.loop-kind.stack.rows c.add.new.self.rows c.loop-kind.stack.wide
    c.add.new.self.wide c.loop-kind-test.true c.kind-item.is (c.loop-kind.invariant.1 items held) adds

pub loop-kind-preserved : goal.loop-kind-preserved
loop-kind-preserved c =
    let adds = rw c.if-not-branch.false at c.in_ok-add.ensures in (
      (
        rows_longer c.args.stack.now.rows c.loop-kind.stack.rows c.add.new.self.rows (Ok _) c.loop-kind.stack.wide c.add.new.self.wide _ c.loop-kind.invariant.0.0 adds,
        wide_longer c.args.stack.now.wide c.loop-kind.stack.wide c.add.new.self.wide (Ok _) c.loop-kind.stack.rows c.add.new.self.rows _ c.loop-kind.invariant.0.1 adds,
      ),
      λ items held. chosen_some items c.args.kinds.now c.loop-kind.kind-index c.kind-item.result c.loop-kind.stack.rows c.add.new.self.rows
          c.loop-kind.stack.wide c.add.new.self.wide c.loop-kind-test.true c.kind-item.is (c.loop-kind.invariant.1 items held) adds,
    )

pub returns-clause-held : goal.returns-clause-held
returns-clause-held c same items held =
    let end : length c.args.kinds.now ≤ c.loop-kind.kind-index = omega arith in
    subst (λ kinds. Held (items ++ all_chosen kinds) c.loop-kind.stack.rows c.loop-kind.stack.wide) (take_all c.loop-kind.kind-index c.args.kinds.now end)
    (c.loop-kind.invariant.1 items held)
