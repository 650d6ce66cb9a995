use Rattle.std.proofs.Common.{◌≡◌, ap, refl}
use Rattle.step_meaning.specs.Syntax.{expression, statement, statements, sequence}
use Rattle.step_meaning.proofs.Finding.{assigned_before, loop_first, loop_found, small_factor, some_factor}
use Rattle.step_meaning.proofs.countdown.loop_row.Goals as goal

pub returns-then-has_no_loop-clause-finds : goal.returns-then-has_no_loop-clause-finds
returns-then-has_no_loop-clause-finds c =
    let split : statements c.loop-left.left.now ≡ sequence (statement c.deref.result.now.kind) (statements c.deref-in-While.result.now) =
    rw (c.deref.ensures, c.deref-in-While.ensures) (ap statements c.in-Then.is) in
    let loop = ap statement c.in-While.is in
    let same = rw (split, loop) at c.loop-left.invariant.same in
    loop_found (expression c.in-While.test) (statements c.in-While.body) (statements c.in-While.step) (statements c.deref-in-While.result.now) (statements c.args.block.now)
    c.loop-left.product c.counted_row.result (c.if-has_no_loop.ensures.0 refl) same c.counted_row.ensures

pub returns-then-has_no_loop-clause-first : goal.returns-then-has_no_loop-clause-first
returns-then-has_no_loop-clause-first c =
    let split : statements c.loop-left.left.now ≡ sequence (statement c.deref.result.now.kind) (statements c.deref-in-While.result.now) =
    rw (c.deref.ensures, c.deref-in-While.ensures) (ap statements c.in-Then.is) in
    let loop = ap statement c.in-While.is in
    let first = rw (split, loop) at c.loop-left.invariant.first in
    loop_first (expression c.in-While.test) (statements c.in-While.body) (statements c.in-While.step) (statements c.deref-in-While.result.now) (statements c.args.block.now)
    c.counted_row.result first c.counted_row.ensures

pub loop-left-preserved : goal.loop-left-preserved
loop-left-preserved c =
    let h = c.loop-left.invariant in
    let split : statements c.loop-left.left.now ≡ sequence (statement c.deref.result.now.kind) (statements c.deref-left.result.now) =
    rw (c.deref.ensures, c.deref-left.ensures) (ap statements c.in-Then.is) in
    let assigned = ap statement c.in-Assign.is in
    let same = rw (split, assigned) at h.same in
    let first = rw (split, assigned) at h.first in
    let made = c.in_ok-product-in-Assign.ensures in
    let p = c.loop-left.product in
    let v = expression c.in-Assign.value in
    record {
      some = some_factor p c.in_ok-product-in-Assign.product v made.0 made.1 h.some;
      small = small_factor p c.in_ok-product-in-Assign.product v made.0 made.1;
      same = λ row. assigned_before p c.in_ok-product-in-Assign.product v made.0 made.1 c.in-Assign.var (statements c.deref-left.result.now) (statements c.args.block.now) row (same row);
      first = first;
    }
