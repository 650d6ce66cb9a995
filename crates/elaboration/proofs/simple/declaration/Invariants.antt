use Rattle.std.proofs.Common.{◌∷◌, drop}
use Rattle.concrete_syntax.specs.Mirror.{part as part_of, parts as parts_of}
use Rattle.elaboration.specs.Statements.{parts_walked}
use Rattle.elaboration.specs.Walking.{context_of}
use Rattle.elaboration.proofs.Walks.{IsLeft}
use Rattle.elaboration.proofs.simple.declaration.Given as goal

-- the parts that are left find, behind what was found, what the declaration finds
abbrev pub invariant-loop-more : goal.invariant-loop-more
invariant-loop-more l =
    IsLeft l.walk l.out.items (parts_walked (context_of l.context) l.walk.scope (parts_of (drop l.more-index l.more-items)))
    l.fn.walk l.fn.out.items (parts_walked (context_of l.fn.context) l.fn.walk.scope (part_of l.tree.part ∷ parts_of l.tree.more.items))
