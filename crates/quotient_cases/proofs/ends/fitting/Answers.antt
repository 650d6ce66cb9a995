use Rattle.linear_forms.proofs.Known.{fitted, unfitted}
use Rattle.quotient_cases.proofs.ends.fitting.Goals as goal

pub returns-in-Ok : goal.returns-in-Ok
returns-in-Ok c = λ a h. fitted _ _ a c.in-Ok.is h

pub returns-in-Err : goal.returns-in-Err
returns-in-Err c = λ a h. unfitted _ _ a c.in-Err.is h
