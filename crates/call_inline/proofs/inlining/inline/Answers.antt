use Rattle.std.proofs.Common.{◌≢◌, ◌≤◌, false, length, sym, ap, subst, arith}
use Rattle.std.proofs.lemmas.Result.{err_from_is_err_and}
use Rattle.std.specs.Prelude.{AllPairs}
use Rattle.step_meaning.specs.Syntax.{statements}
use Rattle.step_meaning.specs.Valid.{IsBody, IsInside}
use Rattle.call_meaning.specs.Tables.{whole_names}
use Rattle.call_inline.specs.Faults.{IsTooDeep}
use Rattle.call_inline.proofs.Becoming.{becomes_sorted, becomes_inside}
use Rattle.call_inline.proofs.Counting.{offsets_counted}
use Rattle.call_inline.proofs.Refusing.{too_deep}
use Rattle.call_inline.proofs.inlining.inline.Goals as goal

pub invariant_of-result : goal.invariant_of-result
invariant_of-result c =
    let unit = c.args.unit.now in
    let names = sym c.in_ok-names.ensures in
    let body = sym c.in_ok-body.ensures.meaning in
    let sorted = subst (λ n. IsBody (length n) (statements c.in_ok-body.body)) names
    (subst (IsBody (length (whole_names unit.func_names unit.funcs unit.names))) body (becomes_sorted unit.func_names unit.funcs unit.names unit.body unit.valid)) in
    record {
      valid = record {
        few = subst (λ n. length n ≤ 15) names unit.valid.few;
        distinct = subst (AllPairs (λ a b. a ≢ b)) names unit.valid.distinct;
        well_sorted = sorted;
        inside = subst (IsInside false) body (becomes_inside unit.func_names unit.funcs unit.names unit.body unit.valid);
      };
    }

pub returns-clause-labels : goal.returns-clause-labels
returns-clause-labels c =
    let counted = offsets_counted c.in_ok-body.body in
    let same = ap length c.in_ok-body.ensures.offsets in
    let few = c.in_ok-check_labels.ensures.room in
    omega arith

pub returns-in_err-check_nesting-clause-fault : goal.returns-in_err-check_nesting-clause-fault
returns-in_err-check_nesting-clause-fault c =
    let unit = c.args.unit.now in
    let fault = c.in_err-check_nesting.field-0.0 in
    let deep = subst (λ funcs. IsTooDeep fault funcs unit.body) c.items-funcs.ensures c.in_err-check_nesting.ensures.fault in
    let p = err_from_is_err_and c.from_residual.result c.from_residual.ensures.1 in
    rw (p.1, p.2) (too_deep fault unit.funcs unit.body deep)

pub returns-in_err-check_labels-clause-fault : goal.returns-in_err-check_labels-clause-fault
returns-in_err-check_labels-clause-fault c =
    let p = err_from_is_err_and c.from_residual-in_err-check_labels.result c.from_residual-in_err-check_labels.ensures.1 in
    rw (p.1, p.2) c.in_err-check_labels.ensures.fault
