use Rattle.step_meaning.proofs.Finding.{lacks}
use Rattle.step_meaning.proofs.Turning.{body_counted, both_counted, step_counted}
use Rattle.step_meaning.proofs.countdown.whole_turn.Goals as goal

pub returns-in_err-first : goal.returns-in_err-first
returns-in_err-first c = lacks _ _ _ c.from_residual.ensures (λ counted. c.in_err-first.ensures.exact (body_counted _ _ _ counted))

pub returns-in_err-second : goal.returns-in_err-second
returns-in_err-second c = lacks _ _ _ c.from_residual-in_err-second.ensures (λ counted. c.in_err-second.ensures.exact (step_counted _ _ _ counted))

pub returns : goal.returns
returns c =
    let first = c.in_ok-first.ensures.exact in
    let second = c.in_ok-second.ensures.exact in
    both_counted _ _ _ _ _ _ first.0 second.0 first.1 second.1 c.and_then.ensures.exact
