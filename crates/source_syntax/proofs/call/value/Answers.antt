use Rattle.std.proofs.Common.{true, false}
use Rattle.source_syntax.proofs.Steps.{over, fails, goes, passed_on, name_reads, name_refused}
use Rattle.source_syntax.proofs.Calling.{values, told_value}
use Rattle.source_syntax.proofs.call.value.Goals as goal

pub returns-in_err-bytes-clause-refused : goal.returns-in_err-bytes-clause-refused
returns-in_err-bytes-clause-refused c =
    passed_on _ _ _ _ c.from_residual.ensures c.in_err-bytes.ensures.missed
    (λ fault missed initialises behind. fails (goes (values initialises _ behind) 0 _ true c.if-is_name.ensures) (name_refused _ _ fault missed))

pub returns-in_err-named-clause-refused : goal.returns-in_err-named-clause-refused
returns-in_err-named-clause-refused c =
    passed_on _ _ _ _ c.from_residual-in_err-named.ensures c.in_err-named.ensures.refused
    (λ fault refused initialises behind. fails (goes (values initialises _ behind) 0 _ true c.if-is_name.ensures)
    (fails (name_reads c.in_ok-bytes.ensures.read) (refused initialises _)))

pub returns-then-is_name-clause-read : goal.returns-then-is_name-clause-read
returns-then-is_name-clause-read c =
    let r = c.in_ok-named.ensures.read in
    told_value r.made (λ initialises behind. (
      _,
      over (goes (values initialises _ behind) 0 _ true c.if-is_name.ensures) (over (name_reads c.in_ok-bytes.ensures.read) (r.comes initialises _).1),
    ))

pub returns-in_err-plain-clause-refused : goal.returns-in_err-plain-clause-refused
returns-in_err-plain-clause-refused c =
    passed_on _ _ _ _ c.from_residual-in_err-plain.ensures c.in_err-plain.ensures.refused
    (λ fault refused initialises behind. fails (goes (values initialises _ behind) 0 _ false c.if-is_name.ensures) (refused _))

pub returns-clause-read : goal.returns-clause-read
returns-clause-read c = λ initialises behind. (_, over (goes (values initialises _ behind) 0 _ false c.if-is_name.ensures) (c.in_ok-plain.ensures.read _))
