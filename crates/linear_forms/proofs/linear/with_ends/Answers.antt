use Rattle.std.proofs.Common.{◌∙◌}
use Rattle.linear_forms.proofs.Known.{formed, unformed}
use Rattle.linear_forms.proofs.linear.with_ends.Goals as goal

pub returns-in-Ok : goal.returns-in-Ok
returns-in-Ok c = λ a h. formed _ _ a _ _ c.in-Ok.is h

pub returns-in-Err : goal.returns-in-Err
returns-in-Err c = λ a h. c.between.ensures ∙ unformed _ _ a _ _ c.in-Err.is h
