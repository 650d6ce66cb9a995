use Rattle.std.proofs.Common.{ℕ, ◌<◌, get_or}
use Rattle.linear_cons.specs.declared.affine.Affine.{Affine}
use Rattle.line_text.specs.Names.{IsOver}
use Rattle.line_text.proofs.over.are_functions_over.Given as goal

abbrev pub invariant-loop-function : goal.invariant-loop-function
invariant-loop-function l = (k : ℕ) (function : Affine) → k < l.function-index → IsOver l.names (get_or l.functions k function)
