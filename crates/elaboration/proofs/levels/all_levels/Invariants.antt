use Rattle.std.proofs.Common.{◌≡◌, ◌≤◌, max, drop}
use Rattle.concrete_syntax.specs.Mirror.{expressions}
use Rattle.elaboration.specs.Levels.{all_levels}
use Rattle.elaboration.proofs.levels.all_levels.Given as goal

-- the greatest so far and that of what is left is that of all
abbrev pub invariant-loop-tree : goal.invariant-loop-tree
invariant-loop-tree l =
    (max l.most (all_levels l.level (expressions (drop l.tree-index l.trees))) ≡ all_levels l.level (expressions l.trees)) × (l.level ≤ l.most)
