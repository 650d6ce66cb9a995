use Rattle.std.proofs.Common.{◌<◌, map, subst, sym}
use Rattle.decision_tree.specs.Plans.{leaves_of, plan_of}
use Rattle.tree_support.specs.Setting.{trees_in}
use Rattle.check_cases.proofs.checks.push_check.Goals as goal

pub check-requires-clause-leaves : goal.check-requires-clause-leaves
check-requires-clause-leaves c label =
    subst (λ plans. leaves_of (trees_in plans label) < 18446744073709551615) (sym c.of.ensures)
    (subst (λ trees. leaves_of (trees_in (map plan_of trees) label) < 18446744073709551615) c.deref.ensures.value
    (c.are_countable.ensures c.if-not-are_countable.false label))
