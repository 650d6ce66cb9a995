use Rattle.std.proofs.Common.{◌≡◌, true, false, ap, arith, rules}
use mir.Val.{to_z, of_z}
use mir.Syntax.{w64}
use Rattle.source_syntax.proofs.Steps.{over, fails, not_next, taken, left_out, handed_on, number_at_reads, number_at_refused}
use Rattle.source_syntax.proofs.Expressions.{divisors}
use Rattle.source_syntax.proofs.Loops.{told}
use Rattle.source_syntax.proofs.expression.divisor.Goals as goal

pub returns-in_err-size-clause-refused : goal.returns-in_err-size-clause-refused
returns-in_err-size-clause-refused c =
    handed_on _ _ _ c.from_residual.ensures
    (λ count behind. fails (taken (divisors behind) c.in-Some.ensures.read (omega arith, tt))
    (number_at_refused _ _ c.in_err-size.field-0.0 c.in_err-size.ensures.missed))

pub returns-in-Some-clause-read : goal.returns-in-Some-clause-read
returns-in-Some-clause-read c =
    let kept : to_z w64 (of_z w64 c.in_ok-size.size) ≡ c.in_ok-size.size = search rules in
    λ count. told (ap (λ z. record { negative = true; at = c.in-Some.at; size = z }) kept)
    (λ behind. over (taken (divisors behind) c.in-Some.ensures.read (omega arith, tt)) (number_at_reads c.in_ok-size.ensures.read))

pub returns-in_err-size-2-clause-refused : goal.returns-in_err-size-2-clause-refused
returns-in_err-size-2-clause-refused c =
    handed_on _ _ _ c.from_residual-in_err-size-2.ensures
    (λ count behind. fails (left_out (divisors behind) (not_next _ _ c.in_default.ensures.read))
    (number_at_refused _ _ c.in_err-size-2.field-0.0 c.in_err-size-2.ensures.missed))

pub returns-clause-read : goal.returns-clause-read
returns-clause-read c =
    let kept : to_z w64 (of_z w64 c.in_ok-size-2.size) ≡ c.in_ok-size-2.size = search rules in
    λ count. told (ap (λ z. record { negative = false; at = c.args.at; size = z }) kept)
    (λ behind. over (left_out (divisors behind) (not_next _ _ c.in_default.ensures.read)) (number_at_reads c.in_ok-size-2.ensures.read))
