use Rattle.std.proofs.Common.{drop}
use Rattle.concrete_syntax.specs.Mirror.{names as names_of, parameters as parameters_tree}
use Rattle.elaboration.specs.Elaborates.{parameters_of}
use Rattle.elaboration.proofs.Listed.{AreDeclared}
use Rattle.elaboration.proofs.function.parameters.Given as goal

-- the parameters that are left find, behind what was found, what all find
abbrev pub invariant-loop-name : goal.invariant-loop-name
invariant-loop-name l = AreDeclared l.walk (names_of (drop l.name-index l.name-items)) l.fn.walk (parameters_of (parameters_tree l.fn.tree))
