use Rattle.std.proofs.Common.{drop}
use Rattle.concrete_syntax.specs.Mirror.{expressions}
use Rattle.elaboration.proofs.Listed.{AreMet}
use Rattle.elaboration.proofs.call.arguments.Given as goal

-- the arguments that are left make and find, behind what was made and found, what all make and find
abbrev pub invariant-loop-tree : goal.invariant-loop-tree
invariant-loop-tree l = AreMet l.walk l.list.items (expressions (drop l.tree-index l.trees)) l.fn.walk (expressions l.fn.trees)
