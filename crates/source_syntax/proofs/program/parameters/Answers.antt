use Rattle.std.proofs.Common.{◌≡◌, [], ◌∷◌, ◌++◌, sym, ap, refl, arith, rules}
use Rattle.std.proofs.lemmas.List.{append-nil}
use Rattle.derivation.specs.declared.symbol.Symbol.TheVariants as Sym
use Rattle.concrete_syntax.specs.Mirror.{name, names}
use Rattle.concrete_syntax.specs.Trees.{named}
use Rattle.source_syntax.proofs.Steps.{over, fails, refilled, not_next, taken, left_out, failed_on, passed_on, sign_reads, name_reads, sign_refused, name_refused}
use Rattle.source_syntax.proofs.Programs.{all_parameters, more_parameters}
use Rattle.source_syntax.proofs.Loops.{longer}
use Rattle.source_syntax.proofs.program.parameters.Goals as goal

pub returns-in_err-written-clause-refused : goal.returns-in_err-written-clause-refused
returns-in_err-written-clause-refused c =
    failed_on _ _ _ c.from_residual.ensures
    (λ count behind. fails (left_out (all_parameters behind) (not_next _ _ c.in_default.ensures.read)) (c.in_err-written.ensures.refused _ _))

pub returns-in_default-clause-read : goal.returns-in_default-clause-read
returns-in_default-clause-read c = λ count behind.
    (_, over (left_out (all_parameters behind) (not_next _ _ c.in_default.ensures.read)) (c.in_ok-written.ensures.read _ _).1)

pub returns-in_err-bytes-clause-refused : goal.returns-in_err-bytes-clause-refused
returns-in_err-bytes-clause-refused c =
    passed_on _ _ _ _ c.from_residual-in_err-bytes.ensures c.in_err-bytes.ensures.missed
    (λ fault missed count behind. fails (taken (all_parameters behind) c.in-Some.ensures.read (omega arith, tt)) (name_refused _ _ fault missed))

pub further-init : goal.further-init
further-init c =
    let none : c.new-more.result.items ≡ [] = search rules in record {
      forward = omega (arith, c.in-Some.ensures.forward.forward, c.in_ok-bytes.ensures.forward.forward);
      comes = λ count behind. (
        _,
        refilled (λ g. ap (λ l. (named (record { at = c.in-Some.inner; bytes = c.in_ok-bytes.bytes.items }) (names l ++ g.0), g.1)) (sym none))
            (over (taken (all_parameters behind) c.in-Some.ensures.read (omega arith, tt)) (name_reads c.in_ok-bytes.ensures.read)),
      );
    }

pub returns-in_err-further-clause-refused : goal.returns-in_err-further-clause-refused
returns-in_err-further-clause-refused c =
    passed_on _ _ _ _ c.from_residual-in_err-further.ensures c.in_err-further.ensures.refused
    (λ fault refused count behind. fails (c.further.invariant.comes count behind).1
    (fails (taken (more_parameters behind) c.in-Some-after.ensures.read (omega arith, tt)) (refused _ _)))

pub further-preserved : goal.further-preserved
further-preserved c =
    let pushed : c.push.new.self.items ≡ c.further.more.items ++ c.in_ok-further.further ∷ [] = search rules in record {
      forward = omega (arith, c.further.invariant.forward, c.in-Some-after.ensures.forward.forward, c.in_ok-further.ensures.forward.forward);
      comes = λ count behind. (
        _,
        refilled (λ g. ap (λ l. (named (record { at = c.in-Some.inner; bytes = c.in_ok-bytes.bytes.items }) l, g.1)) (longer name _ _ _ pushed g.0))
            (over (c.further.invariant.comes count behind).1
            (over (taken (more_parameters behind) c.in-Some-after.ensures.read (omega arith, tt)) (c.in_ok-further.ensures.read _ _).1)),
      );
    }

pub returns-in_err-next-clause-refused : goal.returns-in_err-next-clause-refused
returns-in_err-next-clause-refused c =
    failed_on _ _ _ c.from_residual-in_err-next.ensures
    (λ count behind. fails (c.further.invariant.comes count behind).1
    (fails (left_out (more_parameters behind) (not_next _ _ c.in_default-after.ensures.read)) (sign_refused _ _ c.in_err-next.field-0.0 Sym.CloseParenthesis (refl, refl) c.in_err-next.ensures.missed)))

pub returns-in_default-after-clause-read : goal.returns-in_default-after-clause-read
returns-in_default-after-clause-read c = λ count behind. (
  _,
  refilled (λ g. ap (λ l. (named (record { at = c.in-Some.inner; bytes = c.in_ok-bytes.bytes.items }) l, g)) (append-nil (names c.further.more.items))) (over (c.further.invariant.comes count behind).1
      (over (left_out (more_parameters behind) (not_next _ _ c.in_default-after.ensures.read)) (sign_reads Sym.CloseParenthesis (refl, refl) c.in_ok-next.ensures.read))),
)
