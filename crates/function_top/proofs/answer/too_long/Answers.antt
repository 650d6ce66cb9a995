use Rattle.std.proofs.Common.{inl, refl}
use Rattle.function_top.specs.declared.question.Refusal.TheVariants as R
use Rattle.function_top.specs.Fitting as F
use Rattle.function_top.specs.Output.{refused}
use Rattle.function_top.proofs.answer.too_long.Goals as goal

pub returns-clause-due : goal.returns-clause-due
returns-clause-due c = λ task text advisers long.
    refused (R.Program 14 65536) (inl record { long = long; number_is = refl; offset_is = refl }) c.in_ok-due.ensures.says c.in_ok-due.ensures.unasked

pub returns-clause-fit_due : goal.returns-clause-fit_due
returns-clause-fit_due c = λ text long.
    F.refused (R.Program 14 65536) (λ task. inl record { long = long; number_is = refl; offset_is = refl }) c.in_ok-due.ensures.says c.in_ok-due.ensures.unasked
