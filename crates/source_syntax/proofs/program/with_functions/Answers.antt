use Rattle.std.proofs.Common.{◌≡◌, [], sym, ap, refl, arith, rules}
use Rattle.std.proofs.lemmas.List.{append-nil}
use Rattle.derivation.specs.declared.symbol.Symbol.TheVariants as Sym
use Rattle.concrete_syntax.specs.Mirror.{functions, items}
use Rattle.source_syntax.specs.Reads.{behind_functions}
use Rattle.source_syntax.proofs.Steps.{over, fails, refilled, not_next, taken, left_out, failed_on, passed_on, sign_reads, sign_refused}
use Rattle.source_syntax.proofs.Programs.{all_definitions, definitions_ends}
use Rattle.source_syntax.proofs.Loops.{continues_from, one_function_more}
use Rattle.source_syntax.proofs.program.with_functions.Goals as goal

pub further-init : goal.further-init
further-init c =
    let none : c.new-functions.result.items ≡ [] = search rules in
    record { forward = omega arith; comes = continues_from _ (λ all. ap (λ l. behind_functions (functions l) all) (sym none)) }

pub returns-in_err-further-clause-refused : goal.returns-in_err-further-clause-refused
returns-in_err-further-clause-refused c =
    passed_on _ _ _ _ c.from_residual.ensures c.in_err-further.ensures.refused
    (λ fault refused count behind. fails (c.further.invariant.comes count behind).1
    (fails (taken (all_definitions behind) c.in-Some.ensures.read (omega arith, tt)) (refused _ _)))

pub further-preserved-in-Some : goal.further-preserved-in-Some
further-preserved-in-Some c = record {
  forward = omega (arith, c.further.invariant.forward, c.in-Some.ensures.forward.forward, c.in_ok-further.ensures.forward.forward);
  comes = one_function_more _ _ c.in_ok-further.further (search rules) c.in_ok-further.ensures.typed c.further.invariant.comes
      (λ count behind. (_, over (taken (all_definitions behind) c.in-Some.ensures.read (omega arith, tt)) (c.in_ok-further.ensures.read _ _).1));
}

pub returns-in_err-inner-clause-refused : goal.returns-in_err-inner-clause-refused
returns-in_err-inner-clause-refused c =
    failed_on _ _ _ c.from_residual-in_err-inner.ensures
    (λ count behind. fails (c.further.invariant.comes count behind).1 (fails (left_out (all_definitions behind) (not_next _ _ c.in_default.ensures.read))
    (sign_refused _ _ c.in_err-inner.field-0.0 Sym.Int (refl, refl) c.in_err-inner.ensures.missed)))

pub returns-in_err-void-clause-refused : goal.returns-in_err-void-clause-refused
returns-in_err-void-clause-refused c =
    passed_on _ _ _ _ c.from_residual-in_err-void.ensures c.in_err-void.ensures.refused
    (λ fault refused count behind. fails (c.further.invariant.comes count behind).1 (fails (left_out (all_definitions behind) (not_next _ _ c.in_default.ensures.read))
    (fails (sign_reads Sym.Int (refl, refl) c.in_ok-inner.ensures.read)
    (fails (taken (definitions_ends behind) c.in-Some-after.ensures.read (omega arith, tt)) (refused _ _)))))

pub returns-in-Some-after-clause-read : goal.returns-in-Some-after-clause-read
returns-in-Some-after-clause-read c = λ count behind. (
  _,
  refilled (λ g. ap (λ l. (record { functions = l; void = c.in_ok-void.void; items = items c.in_ok-void.items }, g)) (append-nil _))
      (over (c.further.invariant.comes count behind).1 (over (left_out (all_definitions behind) (not_next _ _ c.in_default.ensures.read))
      (over (sign_reads Sym.Int (refl, refl) c.in_ok-inner.ensures.read)
      (over (taken (definitions_ends behind) c.in-Some-after.ensures.read (omega arith, tt)) (c.in_ok-void.ensures.read _ behind).1)))),
)

pub returns-in_err-further-2-clause-refused : goal.returns-in_err-further-2-clause-refused
returns-in_err-further-2-clause-refused c =
    passed_on _ _ _ _ c.from_residual-in_err-further-2.ensures c.in_err-further-2.ensures.refused
    (λ fault refused count behind. fails (c.further.invariant.comes count behind).1 (fails (left_out (all_definitions behind) (not_next _ _ c.in_default.ensures.read))
    (fails (sign_reads Sym.Int (refl, refl) c.in_ok-inner.ensures.read)
    (fails (left_out (definitions_ends behind) (not_next _ _ c.in_default-after.ensures.read)) (refused _ _)))))

pub further-preserved : goal.further-preserved
further-preserved c = record {
  forward = omega (arith, c.further.invariant.forward, c.in_ok-inner.ensures.forward.forward, c.in_ok-further-2.ensures.forward.forward);
  comes = one_function_more _ _ c.in_ok-further-2.further (search rules) c.in_ok-further-2.ensures.typed c.further.invariant.comes
      (λ count behind. (
        _,
        over (left_out (all_definitions behind) (not_next _ _ c.in_default.ensures.read)) (over (sign_reads Sym.Int (refl, refl) c.in_ok-inner.ensures.read)
            (over (left_out (definitions_ends behind) (not_next _ _ c.in_default-after.ensures.read)) (c.in_ok-further-2.ensures.read _ _).1)),
      ));
}
