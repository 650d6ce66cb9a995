use Rattle.std.proofs.Common.{◌≡◌, [], ◌∷◌, ◌++◌, ◌∙◌, sym, ap, refl, arith, rules}
use Rattle.std.proofs.lemmas.List.{append-nil}
use Rattle.derivation.specs.declared.symbol.Symbol.TheVariants as Sym
use Rattle.concrete_syntax.specs.Mirror.{expression, expressions}
use Rattle.source_syntax.proofs.Steps.{over, fails, refilled, not_next, taken, left_out, failed_on, passed_on, sign_reads, sign_refused}
use Rattle.source_syntax.proofs.Calling.{first_arguments, more_arguments}
use Rattle.source_syntax.proofs.Loops.{longer}
use Rattle.source_syntax.proofs.call.arguments.Goals as goal

pub returns-in_err-first-clause-refused : goal.returns-in_err-first-clause-refused
returns-in_err-first-clause-refused c =
    passed_on _ _ _ _ c.from_residual.ensures c.in_err-first.ensures.refused
    (λ fault refused behind. fails (left_out (first_arguments _ behind) (not_next _ _ c.in_default.ensures.read)) (refused _))

pub returns-in-Some-clause-read : goal.returns-in-Some-clause-read
returns-in-Some-clause-read c =
    let none : c.new-list.result.items ≡ [] = search rules in
    λ behind. (_, refilled (λ g. ap (λ l. (expressions l, g)) (sym none)) (taken (first_arguments _ behind) c.in-Some.ensures.read (omega arith, tt)))

pub further-init : goal.further-init
further-init c =
    let none : c.new-list.result.items ≡ [] = search rules in
    let pushed : c.push.new.self.items ≡ c.new-list.result.items ++ c.in_ok-first.first ∷ [] = search rules in record {
      forward = omega (arith, c.in_ok-first.ensures.forward.forward);
      comes = λ behind. (
        _,
        refilled (λ g. ap (λ l. (expressions l ++ g.0, g.1)) (sym (pushed ∙ ap (λ l. l ++ c.in_ok-first.first ∷ []) none)))
            (over (left_out (first_arguments _ behind) (not_next _ _ c.in_default.ensures.read)) (c.in_ok-first.ensures.read _)),
      );
    }

pub returns-in_err-further-clause-refused : goal.returns-in_err-further-clause-refused
returns-in_err-further-clause-refused c =
    passed_on _ _ _ _ c.from_residual-in_err-further.ensures c.in_err-further.ensures.refused
    (λ fault refused behind. fails (c.further.invariant.comes behind).1
    (fails (taken (more_arguments _ behind) c.in-Some-after.ensures.read (omega arith, tt)) (refused _)))

pub further-preserved : goal.further-preserved
further-preserved c =
    let pushed : c.push-in-Some-after.new.self.items ≡ c.further.list.items ++ c.in_ok-further.further ∷ [] = search rules in record {
      forward = omega (arith, c.further.invariant.forward, c.in-Some-after.ensures.forward.forward, c.in_ok-further.ensures.forward.forward);
      comes = λ behind. (
        _,
        refilled (λ g. ap (λ l. (l, g.1)) (longer expression _ _ _ pushed g.0))
            (over (c.further.invariant.comes behind).1
            (over (taken (more_arguments _ behind) c.in-Some-after.ensures.read (omega arith, tt)) (c.in_ok-further.ensures.read _))),
      );
    }

pub returns-in_err-next-clause-refused : goal.returns-in_err-next-clause-refused
returns-in_err-next-clause-refused c =
    failed_on _ _ _ c.from_residual-in_err-next.ensures
    (λ behind. fails (c.further.invariant.comes behind).1
    (fails (left_out (more_arguments _ behind) (not_next _ _ c.in_default-after.ensures.read))
    (sign_refused _ _ c.in_err-next.field-0.0 Sym.CloseParenthesis (refl, refl) c.in_err-next.ensures.missed)))

pub returns-in_default-after-clause-read : goal.returns-in_default-after-clause-read
returns-in_default-after-clause-read c = λ behind. (
  _,
  refilled (λ g. ap (λ l. (l, g)) (append-nil _)) (over (c.further.invariant.comes behind).1
      (over (left_out (more_arguments _ behind) (not_next _ _ c.in_default-after.ensures.read)) (sign_reads Sym.CloseParenthesis (refl, refl) c.in_ok-next.ensures.read))),
)
