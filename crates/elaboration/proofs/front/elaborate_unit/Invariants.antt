use Rattle.std.proofs.Common.{drop}
use Rattle.concrete_syntax.specs.Mirror.{functions as functions_of, program as program_of}
use Rattle.elaboration.proofs.Whole.{AreLeft}
use Rattle.elaboration.proofs.front.elaborate_unit.Given as goal

-- the functions that are left find and make, behind what was found and made, what all of them find and make
abbrev pub invariant-loop-function : goal.invariant-loop-function
invariant-loop-function l = AreLeft l.tokens l.whole (functions_of (drop l.function-index l.function-items)) (program_of l.tree)
