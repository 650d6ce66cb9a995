use Rattle.std.proofs.Common.{refl, arith}
use Rattle.source_syntax.specs.Ends.{continues, called}
use Rattle.source_syntax.proofs.Steps.{over, fails, not_next, taken, left_out, passed_on}
use Rattle.source_syntax.proofs.Calling.{value_ends}
use Rattle.source_syntax.proofs.call.value_end.Goals as goal

pub returns-in_err-arguments-clause-refused : goal.returns-in_err-arguments-clause-refused
returns-in_err-arguments-clause-refused c =
    passed_on _ _ _ _ c.from_residual.ensures c.in_err-arguments.ensures.refused
    (λ fault refused initialises behind. fails (taken (value_ends _ _ behind) c.in-Some.ensures.read (omega arith, tt)) (refused _))

pub returns-in-Some-clause-read : goal.returns-in-Some-clause-read
returns-in-Some-clause-read c = record {
  end = called _;
  made = refl;
  comes = λ initialises behind. (_, over (taken (value_ends _ _ behind) c.in-Some.ensures.read (omega arith, tt)) (c.in_ok-arguments.ensures.read _).1);
}

pub returns-in_err-tail-clause-refused : goal.returns-in_err-tail-clause-refused
returns-in_err-tail-clause-refused c =
    passed_on _ _ _ _ c.from_residual-in_err-tail.ensures c.in_err-tail.ensures.refused
    (λ fault refused initialises behind. fails (left_out (value_ends _ _ behind) (not_next _ _ c.in_default.ensures.read)) (refused _))

pub returns-clause-read : goal.returns-clause-read
returns-clause-read c = record {
  end = continues _;
  made = refl;
  comes = λ initialises behind. (_, over (left_out (value_ends _ _ behind) (not_next _ _ c.in_default.ensures.read)) (c.in_ok-tail.ensures.read _));
}
