use Rattle.std.proofs.Common.{◌≡◌, sym, ap, ◌∙◌, arith}
use Rattle.step_meaning.specs.declared.count.Count.{Count}
use Rattle.step_meaning.specs.Syntax.{statement, statements, empty, sequence}
use Rattle.step_meaning.specs.Turns.{count_of, count_of_one, joined}
use Rattle.step_meaning.proofs.Finding.{lacks}
use Rattle.step_meaning.proofs.Turning.{joined_none, one_more, one_not_counted, too_many_steps}
use Rattle.step_meaning.proofs.count.+turns.Goals as goal

pub turn-returns-in_err-one-clause-exact : goal.turn-returns-in_err-one-clause-exact
turn-returns-in_err-one-clause-exact t c =
    let h = c.loop-left.invariant in
    let split : statements c.loop-left.left.now ≡ sequence (statement c.deref.result.now.kind) (statements c.in-Then.rest.value) =
    rw c.deref.ensures (ap statements c.in-Then.is) in
    let all = rw split at h.all in
    let whole = rw split at h.whole in
    lacks _ _ _ c.from_residual.ensures (one_not_counted _ _ _ _ _ all whole c.in_err-one.ensures.exact)

pub turn-returns-in_err-count-clause-exact : goal.turn-returns-in_err-count-clause-exact
turn-returns-in_err-count-clause-exact t c =
    let h = c.loop-left.invariant in
    let split : statements c.loop-left.left.now ≡ sequence (statement c.deref.result.now.kind) (statements c.in-Then.rest.value) =
    rw c.deref.ensures (ap statements c.in-Then.is) in
    let all = rw split at h.all in
    let whole = rw split at h.whole in
    let full = rw c.in_ok-one.ensures.exact.1 at c.in_err-count.ensures.exact in
    lacks _ _ _ c.from_residual-in_err-count.ensures (too_many_steps _ _ _ _ _ all whole full)

pub turn-loop-left-preserved : goal.turn-loop-left-preserved
turn-loop-left-preserved t c =
    let h = c.loop-left.invariant in
    let split : statements c.loop-left.left.now ≡ sequence (statement c.deref.result.now.kind) (statements c.deref-left.result.now) =
    rw (c.deref.ensures, c.deref-left.ensures) (ap statements c.in-Then.is) in
    let all = rw split at h.all in
    let whole = rw split at h.whole in
    let fewer = rw split at h.fewer in
    let made : joined c.loop-left.count (count_of_one c.args.function.now (statement c.deref.result.now.kind)) ≡ c.in_ok-count.count =
    rw (← c.in_ok-one.ensures.exact.1) (sym c.in_ok-count.ensures.exact.1) in
    let next = one_more c.args.function.now (statement c.deref.result.now.kind) (statements c.deref-left.result.now) (statements c.args.block.now) c.loop-left.count all whole c.in_ok-one.ensures.exact.0.0 c.in_ok-count.count made in
    record {
      fewer = omega arith;
      fits = let most = c.in_ok-count.ensures.exact.0 in let is = ap (λ (n : Count). n.most) c.in_ok-count.ensures.exact.1 in omega arith;
      moderate = c.in_ok-count.ensures.moderate;
      all = next.0;
      whole = next.1;
    }

pub turn-returns-clause-exact : goal.turn-returns-clause-exact
turn-returns-clause-exact t c =
    let h = c.loop-left.invariant in
    let ended : statements c.loop-left.left.now ≡ empty = ap statements c.in_default.is in
    let all = rw ended at h.all in
    let whole = rw ended at h.whole in
    let is : count_of c.args.function.now (statements c.args.block.now) ≡ c.loop-left.count = whole tt ∙ joined_none c.loop-left.count in
    ((all.0 tt, rw is h.fits), sym is)
