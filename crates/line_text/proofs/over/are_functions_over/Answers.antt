use Rattle.std.proofs.Common.{arith, refl}
use Rattle.std.proofs.lemmas.Bool.{false≢true}
use Rattle.line_text.proofs.over.are_functions_over.Goals as goal

pub returns-then-not-is_over : goal.returns-then-not-is_over
returns-then-not-is_over c = (
  λ e. absurd (false≢true e),
  λ all. c.if-not-is_over.ensures.1 (all c.loop-function.function-index _ c.loop-function-test.true),
)

pub returns : goal.returns
returns c = (λ e. λ k function low. c.loop-function.invariant k function (omega arith), λ all. refl)
