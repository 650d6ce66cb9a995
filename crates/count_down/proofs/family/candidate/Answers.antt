use Rattle.std.proofs.Common.{IfOk, subst}
use Rattle.std.specs.Prelude.{IsSome, ◌↔◌}
use Rattle.step_meaning.specs.Countdown.{IsCountdown}
use Rattle.step_meaning.specs.Syntax.{statements}
use Rattle.step_meaning.specs.declared.program.Program.{Program}
use Rattle.count_down.proofs.family.candidate.Goals as goal

pub returns-clause-countdown : goal.returns-clause-countdown
returns-clause-countdown c =
    subst (λ (program : Program). IfOk c.candidate_of.result (λ found. IsSome found ↔ IsCountdown (statements program.body))) c.program.ensures
    c.candidate_of.ensures.countdown
