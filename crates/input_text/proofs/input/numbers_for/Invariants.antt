use Rattle.input_text.specs.Pieces.{pieces}
use Rattle.input_text.proofs.Filling.{IsFilled}
use Rattle.input_text.proofs.input.numbers_for.Given as goal

abbrev pub invariant-loop-place : goal.invariant-loop-place
invariant-loop-place l = IsFilled l.names (pieces 44 l.text) l.place l.input
