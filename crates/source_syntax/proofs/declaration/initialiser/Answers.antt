use Rattle.source_syntax.proofs.Steps.{over, fails, passed_on}
use Rattle.source_syntax.proofs.Statements.{no_called_initialisers}
use Rattle.source_syntax.proofs.Calling.{initialiser_goes, closes_part}
use Rattle.source_syntax.proofs.declaration.initialiser.Goals as goal

pub returns-in_err-value-clause-refused : goal.returns-in_err-value-clause-refused
returns-in_err-value-clause-refused c =
    passed_on _ _ _ _ c.from_residual.ensures c.in_err-value.ensures.refused
    (λ fault refused. rw c.if-functions.true (λ behind. fails (initialiser_goes _ 0 behind _) (refused _ behind)))

pub returns-then-functions-clause-read : goal.returns-then-functions-clause-read
returns-then-functions-clause-read c =
    rw c.if-functions.true (λ behind. (
      _,
      over (initialiser_goes _ 0 behind _) (over (c.in_ok-value.ensures.read _ behind).1 (closes_part _ _ behind _)),
    ))

pub returns-in_err-plain-clause-refused : goal.returns-in_err-plain-clause-refused
returns-in_err-plain-clause-refused c =
    passed_on _ _ _ _ c.from_residual-in_err-plain.ensures c.in_err-plain.ensures.refused
    (λ fault refused. rw c.if-functions.false (λ behind. fails (no_called_initialisers _ 0 behind _) (refused _)))

pub returns-clause-read : goal.returns-clause-read
returns-clause-read c =
    rw c.if-functions.false (λ behind. (_, over (no_called_initialisers _ 0 behind _) (c.in_ok-plain.ensures.read _)))
