use Rattle.std.proofs.Common.{◌∙◌, sym, refl}
use Rattle.derivation.specs.declared.symbol.Symbol.TheVariants as Sym
use Rattle.source_syntax.specs.declared.opening.EndOpening.TheVariants as EndOpening
use Rattle.source_syntax.specs.Ends.{does, applied, given_value}
use Rattle.source_syntax.proofs.Steps.{over, fails, goes, failed_on, passed_on, sign_reads, sign_refused, leading_reads, leading_refused}
use Rattle.source_syntax.proofs.Calling.{statement_ends, closes_statement}
use Rattle.source_syntax.proofs.call.statement_end.Goals as goal

pub returns-in_err-inner-in-Call-clause-refused : goal.returns-in_err-inner-in-Call-clause-refused
returns-in_err-inner-in-Call-clause-refused c =
    failed_on _ _ _ c.from_residual.ensures
    (λ count behind. fails (goes (statement_ends _ behind) count _ EndOpening.Call (sym c.in-Call.is ∙ c.opening_of_end.ensures))
    (leading_refused _ _ c.in_err-inner-in-Call.field-0.0 Sym.OpenParenthesis (refl, refl) c.in_err-inner-in-Call.ensures.missed))

pub returns-in_err-arguments-in-Call-clause-refused : goal.returns-in_err-arguments-in-Call-clause-refused
returns-in_err-arguments-in-Call-clause-refused c =
    passed_on _ _ _ _ c.from_residual-in_err-arguments-in-Call.ensures c.in_err-arguments-in-Call.ensures.refused
    (λ fault refused count behind. fails (goes (statement_ends _ behind) count _ EndOpening.Call (sym c.in-Call.is ∙ c.opening_of_end.ensures))
    (fails (leading_reads Sym.OpenParenthesis (refl, refl) c.in_ok-inner-in-Call.ensures.read) (refused _)))

pub returns-in_err-next-in-Call-clause-refused : goal.returns-in_err-next-in-Call-clause-refused
returns-in_err-next-in-Call-clause-refused c =
    failed_on _ _ _ c.from_residual-in_err-next-in-Call.ensures
    (λ count behind. fails (goes (statement_ends _ behind) count _ EndOpening.Call (sym c.in-Call.is ∙ c.opening_of_end.ensures))
    (fails (leading_reads Sym.OpenParenthesis (refl, refl) c.in_ok-inner-in-Call.ensures.read)
    (fails (c.in_ok-arguments-in-Call.ensures.read _).1 (sign_refused _ _ c.in_err-next-in-Call.field-0.0 Sym.Semicolon (refl, refl) c.in_err-next-in-Call.ensures.missed))))

pub returns-in_ok-next-in-Call-clause-read : goal.returns-in_ok-next-in-Call-clause-read
returns-in_ok-next-in-Call-clause-read c = record {
  end = applied _;
  made = refl;
  reads = λ count behind. (
    _,
    over (goes (statement_ends _ behind) count _ EndOpening.Call (sym c.in-Call.is ∙ c.opening_of_end.ensures))
        (over (leading_reads Sym.OpenParenthesis (refl, refl) c.in_ok-inner-in-Call.ensures.read)
        (over (c.in_ok-arguments-in-Call.ensures.read _).1 (sign_reads Sym.Semicolon (refl, refl) c.in_ok-next-in-Call.ensures.read))),
  );
}

pub returns-in_err-inner-in-Value-clause-refused : goal.returns-in_err-inner-in-Value-clause-refused
returns-in_err-inner-in-Value-clause-refused c =
    failed_on _ _ _ c.from_residual-in_err-inner-in-Value.ensures
    (λ count behind. fails (goes (statement_ends _ behind) count _ EndOpening.Value (sym c.in-Value.is ∙ c.opening_of_end.ensures))
    (leading_refused _ _ c.in_err-inner-in-Value.field-0.0 Sym.Assign (refl, refl) c.in_err-inner-in-Value.ensures.missed))

pub returns-in_err-value-in-Value-clause-refused : goal.returns-in_err-value-in-Value-clause-refused
returns-in_err-value-in-Value-clause-refused c =
    passed_on _ _ _ _ c.from_residual-in_err-value-in-Value.ensures c.in_err-value-in-Value.ensures.refused
    (λ fault refused count behind. fails (goes (statement_ends _ behind) count _ EndOpening.Value (sym c.in-Value.is ∙ c.opening_of_end.ensures))
    (fails (leading_reads Sym.Assign (refl, refl) c.in_ok-inner-in-Value.ensures.read) (refused _ _)))

pub returns-in_err-next-in-Value-clause-refused : goal.returns-in_err-next-in-Value-clause-refused
returns-in_err-next-in-Value-clause-refused c =
    failed_on _ _ _ c.from_residual-in_err-next-in-Value.ensures
    (λ count behind. fails (goes (statement_ends _ behind) count _ EndOpening.Value (sym c.in-Value.is ∙ c.opening_of_end.ensures))
    (fails (leading_reads Sym.Assign (refl, refl) c.in_ok-inner-in-Value.ensures.read)
    (fails (c.in_ok-value-in-Value.ensures.read _ _).1 (fails (closes_statement _ _ _ _)
    (sign_refused _ _ c.in_err-next-in-Value.field-0.0 Sym.Semicolon (refl, refl) c.in_err-next-in-Value.ensures.missed)))))

pub returns-in_ok-next-in-Value-clause-read : goal.returns-in_ok-next-in-Value-clause-read
returns-in_ok-next-in-Value-clause-read c = record {
  end = given_value _;
  made = c.given.ensures;
  reads = λ count behind. (
    _,
    over (goes (statement_ends _ behind) count _ EndOpening.Value (sym c.in-Value.is ∙ c.opening_of_end.ensures))
        (over (leading_reads Sym.Assign (refl, refl) c.in_ok-inner-in-Value.ensures.read)
        (over (c.in_ok-value-in-Value.ensures.read _ _).1
        (over (closes_statement _ _ _ _) (sign_reads Sym.Semicolon (refl, refl) c.in_ok-next-in-Value.ensures.read)))),
  );
}

pub returns-in_err-action-in-Action-clause-refused : goal.returns-in_err-action-in-Action-clause-refused
returns-in_err-action-in-Action-clause-refused c =
    passed_on _ _ _ _ c.from_residual-in_err-action-in-Action.ensures c.in_err-action-in-Action.ensures.refused
    (λ fault refused count behind. fails (goes (statement_ends _ behind) count _ EndOpening.Action (sym c.in-Action.is ∙ c.opening_of_end.ensures)) (refused _ _))

pub returns-in_err-next-in-Action-clause-refused : goal.returns-in_err-next-in-Action-clause-refused
returns-in_err-next-in-Action-clause-refused c =
    failed_on _ _ _ c.from_residual-in_err-next-in-Action.ensures
    (λ count behind. fails (goes (statement_ends _ behind) count _ EndOpening.Action (sym c.in-Action.is ∙ c.opening_of_end.ensures))
    (fails (c.in_ok-action-in-Action.ensures.read _ _).1 (sign_refused _ _ c.in_err-next-in-Action.field-0.0 Sym.Semicolon (refl, refl) c.in_err-next-in-Action.ensures.missed)))

pub returns-in_ok-next-in-Action-clause-read : goal.returns-in_ok-next-in-Action-clause-read
returns-in_ok-next-in-Action-clause-read c = record {
  end = does _;
  made = refl;
  reads = λ count behind. (
    _,
    over (goes (statement_ends _ behind) count _ EndOpening.Action (sym c.in-Action.is ∙ c.opening_of_end.ensures))
        (over (c.in_ok-action-in-Action.ensures.read _ _).1 (sign_reads Sym.Semicolon (refl, refl) c.in_ok-next-in-Action.ensures.read)),
  );
}
