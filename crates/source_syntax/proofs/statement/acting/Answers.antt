use Rattle.std.proofs.Common.{refl}
use Rattle.derivation.specs.declared.symbol.Symbol.TheVariants as Sym
use Rattle.source_syntax.specs.Ends.{does}
use Rattle.source_syntax.proofs.Steps.{over, fails, failed_on, passed_on, sign_reads, sign_refused}
use Rattle.source_syntax.proofs.Calling.{no_calls}
use Rattle.source_syntax.proofs.statement.acting.Goals as goal

pub returns-in_err-action-clause-refused : goal.returns-in_err-action-clause-refused
returns-in_err-action-clause-refused c =
    passed_on _ _ _ _ c.from_residual.ensures c.in_err-action.ensures.refused
    (λ fault refused count behind. fails (no_calls _ count behind _) (refused _ _))

pub returns-in_err-next-clause-refused : goal.returns-in_err-next-clause-refused
returns-in_err-next-clause-refused c =
    failed_on _ _ _ c.from_residual-in_err-next.ensures
    (λ count behind. fails (no_calls _ count behind _) (fails (c.in_ok-action.ensures.read _ _).1 (sign_refused _ _ c.in_err-next.field-0.0 Sym.Semicolon (refl, refl) c.in_err-next.ensures.missed)))

pub returns-clause-read : goal.returns-clause-read
returns-clause-read c = record {
  end = does _;
  made = refl;
  reads = λ count behind.
      (_, over (no_calls _ count behind _) (over (c.in_ok-action.ensures.read _ _).1 (sign_reads Sym.Semicolon (refl, refl) c.in_ok-next.ensures.read)));
}
