use Rattle.std.proofs.Common.{arith}
use Rattle.source_syntax.proofs.Steps.{over, fails, not_next, taken, left_out, handed_on}
use Rattle.source_syntax.proofs.Expressions.{ends}
use Rattle.source_syntax.proofs.expression.range_end.Goals as goal

pub returns-in_err-size-clause-refused : goal.returns-in_err-size-clause-refused
returns-in_err-size-clause-refused c =
    handed_on _ _ _ c.from_residual.ensures
    (λ count behind. fails (taken (ends behind) c.in-Some.ensures.read (omega arith, tt)) (c.in_err-size.ensures.refused count behind))

pub returns-in-Some-clause-read : goal.returns-in-Some-clause-read
returns-in-Some-clause-read c = λ count behind. over (taken (ends behind) c.in-Some.ensures.read (omega arith, tt)) (c.in_ok-size.ensures.read count behind)

pub returns-in_err-size-2-clause-refused : goal.returns-in_err-size-2-clause-refused
returns-in_err-size-2-clause-refused c =
    handed_on _ _ _ c.from_residual-in_err-size-2.ensures
    (λ count behind. fails (left_out (ends behind) (not_next _ _ c.in_default.ensures.read)) (c.in_err-size-2.ensures.refused count behind))

pub returns-clause-read : goal.returns-clause-read
returns-clause-read c = λ count behind. over (left_out (ends behind) (not_next _ _ c.in_default.ensures.read)) (c.in_ok-size-2.ensures.read count behind)
