use Rattle.std.proofs.Common.{◌≡◌, [], sym, ap, rules}
use Rattle.concrete_syntax.specs.Mirror.{functions, items}
use Rattle.source_syntax.proofs.Steps.{over, fails, refilled, failed_on, passed_on, signs_read, signs_refused}
use Rattle.source_syntax.proofs.Programs.{main_signs, main_quiet, no_functions}
use Rattle.source_syntax.proofs.program.after_preludes.Goals as goal

pub returns-in_err-all-clause-refused : goal.returns-in_err-all-clause-refused
returns-in_err-all-clause-refused c =
    passed_on _ _ _ _ c.from_residual.ensures c.in_err-all.ensures.refused (λ fault refused. rw c.if-functions.true refused)

pub returns-then-functions-clause-read : goal.returns-then-functions-clause-read
returns-then-functions-clause-read c = rw c.if-functions.true c.in_ok-all.ensures.read

pub returns-in_err-inner-clause-refused : goal.returns-in_err-inner-clause-refused
returns-in_err-inner-clause-refused c =
    failed_on _ _ _ c.from_residual-in_err-inner.ensures
    (rw c.if-functions.false (λ count behind. fails (no_functions count behind _) (signs_refused _ main_signs main_quiet c.in_err-inner.ensures.missed)))

pub returns-in_err-void-clause-refused : goal.returns-in_err-void-clause-refused
returns-in_err-void-clause-refused c =
    passed_on _ _ _ _ c.from_residual-in_err-void.ensures c.in_err-void.ensures.refused
    (λ fault refused. rw c.if-functions.false (λ count behind. fails (no_functions count behind _)
    (fails (signs_read main_signs main_quiet c.in_ok-inner.ensures.read) (refused _ _))))

pub returns-clause-read : goal.returns-clause-read
returns-clause-read c =
    let none : c.new-functions.result.items ≡ [] = search rules in
    rw c.if-functions.false (λ count behind. (
      _,
      refilled (λ g. ap (λ l. (record { functions = functions l; void = c.in_ok-void.void; items = items c.in_ok-void.items }, g)) (sym none))
          (over (no_functions count behind _) (over (signs_read main_signs main_quiet c.in_ok-inner.ensures.read) (c.in_ok-void.ensures.read count behind).1)),
    ))
