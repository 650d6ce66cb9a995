use Rattle.std.proofs.Common.{◌≡◌, ◌≤◌, max, drop}
use Rattle.concrete_syntax.specs.Mirror.{declaration as declaration_of, parts as parts_of}
use Rattle.elaboration.specs.Levels.{declaration_levels, parts_levels}
use Rattle.elaboration.proofs.levels.declaration_levels.Given as goal

-- the greatest so far and that of what is left is that of all
abbrev pub invariant-loop-part : goal.invariant-loop-part
invariant-loop-part l =
    (max l.most (parts_levels l.level (parts_of (drop l.part-index l.part-items))) ≡ declaration_levels l.level (declaration_of l.tree)) × (l.level ≤ l.most)
