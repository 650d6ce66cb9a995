-- A reason why a program is a countdown program.
use Rattle.std.proofs.Common.{inl, inr}
use Rattle.step_meaning.specs.declared.countdown.Countdown.{Countdown}
use Rattle.step_meaning.specs.declared.countdown.Countdown.TheVariants.{Straight, Loop}
use Rattle.step_meaning.specs.Syntax.{Statements}
use Rattle.step_meaning.specs.Countdown.{IsCountdown, IsCountdownBy}

pub is_countdown : (countdown : Countdown) (body : Statements) → IsCountdownBy countdown body → IsCountdown body
is_countdown Straight body h = inl h
is_countdown (Loop row) body h = inr (row, h.0)
