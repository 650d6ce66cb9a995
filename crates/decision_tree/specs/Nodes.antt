-- How trees are joined at a row: equal sides make one.
use Rattle.std.specs.Prelude.{Bool, if◌then◌else◌}
use Rattle.linear_cons.specs.declared.row.Row.{Row}
use Rattle.decision_tree.specs.Plans.{Plan, branch}
use Rattle.decision_tree.specs.Equality.{same_plan}

-- the yes side where both sides are equal, else the tree with the row at its root
abbrev pub node : {R : Type 0} → (R → R → Bool) → Row → Plan R → Plan R → Plan R
node same row this that = if same_plan same this that then this else branch row this that
