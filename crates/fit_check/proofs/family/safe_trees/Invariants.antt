use Rattle.std.proofs.Common.{◌≡◌, length, map}
use Rattle.step_meaning.specs.Syntax.{statements}
use Rattle.control_flow.specs.Told.{told_by}
use Rattle.decision_tree.specs.Plans.{plan_of}
use Rattle.tree_support.specs.Setting.{trees_in}
use Rattle.fit_check.specs.Safety.{AreSafe}
use Rattle.fit_check.proofs.family.safe_trees.Given as goal

-- each tree so far is safe
abbrev pub invariant-loop-label : goal.invariant-loop-label
invariant-loop-label g l =
    (length l.trees.items ≡ l.label)
    × AreSafe (length l.graph.names) (statements l.graph.body) (told_by g.D.NumDomain.told_bounds g.D.NumDomain.told_rows g.D.NumDomain.seen_empty l.inv).bounds
    (trees_in (map plan_of l.trees.items))
