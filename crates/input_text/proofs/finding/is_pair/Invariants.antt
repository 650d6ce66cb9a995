use Rattle.std.specs.Prelude.{ℕ, ◌<◌}
use Rattle.input_text.specs.Input.{IsPairAt}
use Rattle.input_text.proofs.finding.is_pair.Given as goal

abbrev pub invariant-loop-place : goal.invariant-loop-place
invariant-loop-place l = (place : ℕ) → place < l.place → ¬ IsPairAt l.names l.input place l.piece
