use Rattle.std.proofs.Common.{◌≡◌, [], ◌∷◌, ◌++◌, map, sym, ap, refl, arith, rules}
use Rattle.std.proofs.lemmas.List.{append-nil}
use Rattle.derivation.specs.declared.symbol.Symbol.TheVariants as Sym
use Rattle.concrete_syntax.specs.Mirror.{part}
use Rattle.source_syntax.proofs.Steps.{over, fails, refilled, not_next, taken, left_out, failed_on, passed_on, sign_reads, leading_reads, sign_refused, leading_refused}
use Rattle.source_syntax.proofs.Statements.{further_parts, declaration_goes}
use Rattle.source_syntax.proofs.Loops.{longer}
use Rattle.source_syntax.proofs.declaration.declaration.Goals as goal

pub returns-in_err-inner-clause-refused : goal.returns-in_err-inner-clause-refused
returns-in_err-inner-clause-refused c =
    failed_on _ _ _ c.from_residual.ensures
    (λ count behind. fails (declaration_goes _ _ count behind _) (sign_refused _ _ c.in_err-inner.field-0.0 Sym.Int (refl, refl) c.in_err-inner.ensures.missed))

pub returns-in_err-first-clause-refused : goal.returns-in_err-first-clause-refused
returns-in_err-first-clause-refused c =
    passed_on _ _ _ _ c.from_residual-in_err-first.ensures c.in_err-first.ensures.refused
    (λ fault refused count behind. fails (declaration_goes _ _ count behind _) (fails (sign_reads Sym.Int (refl, refl) c.in_ok-inner.ensures.read) (refused _ behind)))

pub parts-init : goal.parts-init
parts-init c =
    let none : c.new-more.result.items ≡ [] = search rules in record {
      forward = omega (arith, c.in_ok-inner.ensures.forward.forward, c.in_ok-first.ensures.forward.forward);
      comes = λ count behind. (
        _,
        refilled (λ g. ap (λ l. (record { part = part c.in_ok-first.first; more = map part l ++ g.0 }, g.1)) (sym none))
            (over (declaration_goes _ _ count behind _) (over (sign_reads Sym.Int (refl, refl) c.in_ok-inner.ensures.read) (c.in_ok-first.ensures.read _ behind).1)),
      );
    }

pub returns-in_err-further-clause-refused : goal.returns-in_err-further-clause-refused
returns-in_err-further-clause-refused c =
    passed_on _ _ _ _ c.from_residual-in_err-further.ensures c.in_err-further.ensures.refused
    (λ fault refused count behind. fails (c.parts.invariant.comes count behind).1
    (fails (taken (further_parts _ _ behind) c.in-Some.ensures.read (omega arith, tt)) (refused _ behind)))

pub parts-preserved : goal.parts-preserved
parts-preserved c =
    let pushed : c.push.new.self.items ≡ c.parts.more.items ++ c.in_ok-further.further ∷ [] = search rules in record {
      forward = omega (arith, c.parts.invariant.forward, c.in-Some.ensures.forward.forward, c.in_ok-further.ensures.forward.forward);
      comes = λ count behind. (
        _,
        refilled (λ g. ap (λ l. (record { part = part c.in_ok-first.first; more = l }, g.1)) (longer part _ _ _ pushed g.0))
            (over (c.parts.invariant.comes count behind).1
            (over (taken (further_parts _ _ behind) c.in-Some.ensures.read (omega arith, tt)) (c.in_ok-further.ensures.read _ behind).1)),
      );
    }

pub returns-in_err-next-clause-refused : goal.returns-in_err-next-clause-refused
returns-in_err-next-clause-refused c =
    failed_on _ _ _ c.from_residual-in_err-next.ensures
    (λ count behind. fails (c.parts.invariant.comes count behind).1
    (fails (left_out (further_parts _ _ behind) (not_next _ _ c.in_default.ensures.read)) (leading_refused _ _ c.in_err-next.field-0.0 Sym.Semicolon (refl, refl) c.in_err-next.ensures.missed)))

pub returns-in_default-clause-read : goal.returns-in_default-clause-read
returns-in_default-clause-read c = λ count behind.
    refilled (λ g. ap (λ l. (record { part = part c.in_ok-first.first; more = l }, g)) (append-nil _)) (over (c.parts.invariant.comes count behind).1
    (over (left_out (further_parts _ _ behind) (not_next _ _ c.in_default.ensures.read)) (leading_reads Sym.Semicolon (refl, refl) c.in_ok-next.ensures.read)))
