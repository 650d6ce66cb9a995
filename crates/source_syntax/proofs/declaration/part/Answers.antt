use Rattle.std.proofs.Common.{arith}
use Rattle.source_syntax.proofs.Steps.{over, fails, not_next, taken, left_out, passed_on, name_reads, name_refused}
use Rattle.source_syntax.proofs.Statements.{part_ends}
use Rattle.source_syntax.proofs.declaration.part.Goals as goal

pub returns-in_err-bytes-clause-refused : goal.returns-in_err-bytes-clause-refused
returns-in_err-bytes-clause-refused c =
    passed_on _ _ _ _ c.from_residual.ensures c.in_err-bytes.ensures.missed
    (λ fault missed count behind. name_refused _ _ fault missed)

pub returns-in_err-value-clause-refused : goal.returns-in_err-value-clause-refused
returns-in_err-value-clause-refused c =
    passed_on _ _ _ _ c.from_residual-in_err-value.ensures c.in_err-value.ensures.refused
    (λ fault refused count behind. fails (name_reads c.in_ok-bytes.ensures.read) (fails (taken (part_ends _ _ behind) c.in-Some.ensures.read (omega arith, tt)) (refused _)))

pub returns-in-Some-clause-read : goal.returns-in-Some-clause-read
returns-in-Some-clause-read c = λ count behind.
    (_, over (name_reads c.in_ok-bytes.ensures.read) (over (taken (part_ends _ _ behind) c.in-Some.ensures.read (omega arith, tt)) (c.in_ok-value.ensures.read _).1))

pub returns-clause-read : goal.returns-clause-read
returns-clause-read c = λ count behind. (_, over (name_reads c.in_ok-bytes.ensures.read) (left_out (part_ends _ _ behind) (not_next _ _ c.in_default.ensures.read)))
