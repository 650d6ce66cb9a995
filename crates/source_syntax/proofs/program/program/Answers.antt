use Rattle.std.proofs.Common.{◌≡◌, [], ◌∷◌, ◌++◌, ◌∙◌, map, sym, ap, arith, rules}
use Rattle.std.proofs.lemmas.List.{append-nil}
use Rattle.concrete_syntax.specs.declared.program.Prelude.TheVariants.{ExternCall, TypedefBool}
use Rattle.concrete_syntax.specs.Mirror.{prelude, functions, items}
use Rattle.source_syntax.specs.declared.opening.PreludeOpening.TheVariants as PreludeOpening
use Rattle.source_syntax.specs.Reads.{behind_preludes}
use Rattle.source_syntax.proofs.Steps.{over, fails, refilled, goes, failed_on, passed_on}
use Rattle.source_syntax.proofs.Programs.{beginnings}
use Rattle.source_syntax.proofs.Loops.{continues_from, one_prelude_more}
use Rattle.source_syntax.proofs.program.program.Goals as goal

pub preludes-init : goal.preludes-init
preludes-init c =
    let none : c.new-preludes.result.items ≡ [] = search rules in
    record { forward = omega arith; comes = continues_from _ (λ p. ap (λ l. behind_preludes (map prelude l) p) (sym none)) }

pub preludes-preserved-in-Extern : goal.preludes-preserved-in-Extern
preludes-preserved-in-Extern c =
    let pushed : c.push.new.self.items ≡ c.preludes.preludes.items ++ ExternCall c.in_ok-void-in-Extern.void ∷ [] = search rules in record {
      forward = omega (arith, c.preludes.invariant.forward, c.in_ok-void-in-Extern.ensures.forward.forward);
      comes = one_prelude_more _ _ _ pushed c.preludes.invariant.comes c.in_ok-void-in-Extern.ensures.read;
    }

pub preludes-preserved : goal.preludes-preserved
preludes-preserved c =
    let pushed : c.push-in-Typedef.new.self.items ≡ c.preludes.preludes.items ++ TypedefBool ∷ [] = search rules in record {
      forward = omega (arith, c.preludes.invariant.forward, c.in_ok-next-in-Typedef.ensures.forward.forward);
      comes = one_prelude_more _ _ _ pushed c.preludes.invariant.comes c.in_ok-next-in-Typedef.ensures.read;
    }

pub returns-in_err-void-in-Extern-clause-refused : goal.returns-in_err-void-in-Extern-clause-refused
returns-in_err-void-in-Extern-clause-refused c =
    failed_on _ _ _ c.from_residual.ensures
    (λ count behind. fails (c.preludes.invariant.comes count behind).1 (c.in_err-void-in-Extern.ensures.refused _ behind))

pub returns-in_err-next-in-Typedef-clause-refused : goal.returns-in_err-next-in-Typedef-clause-refused
returns-in_err-next-in-Typedef-clause-refused c =
    failed_on _ _ _ c.from_residual-in_err-next-in-Typedef.ensures
    (λ count behind. fails (c.preludes.invariant.comes count behind).1 (c.in_err-next-in-Typedef.ensures.refused _ behind))

pub returns-in_err-all-in-Main-clause-refused : goal.returns-in_err-all-in-Main-clause-refused
returns-in_err-all-in-Main-clause-refused c =
    passed_on _ _ _ _ c.from_residual-in_err-all-in-Main.ensures c.in_err-all-in-Main.ensures.refused
    (λ fault refused count behind. fails (c.preludes.invariant.comes count behind).1
    (fails (goes (beginnings _ behind) _ _ PreludeOpening.Main (sym c.in-Main.is ∙ c.opening_of_prelude.ensures)) (refused _ behind)))

pub returns-in-Main-clause-read : goal.returns-in-Main-clause-read
returns-in-Main-clause-read c =
    let all = c.in_ok-all-in-Main.all in
    λ count behind. (
      _,
      refilled (λ g. ap (λ l. (record { preludes = l; functions = functions all.functions.items; void = all.void; items = items all.items }, g)) (append-nil _))
          (over (c.preludes.invariant.comes count behind).1
          (over (goes (beginnings _ behind) _ _ PreludeOpening.Main (sym c.in-Main.is ∙ c.opening_of_prelude.ensures)) (c.in_ok-all-in-Main.ensures.read _ behind).1)),
    )
