use Rattle.std.proofs.Common.{false, length, sym, subst, ap, ◌∙◌}
use Rattle.step_meaning.specs.Syntax.{Expression, empty, if_else, sequence, statements}
use Rattle.step_meaning.specs.Valid.{IsBody, IsInside}
use Rattle.int_fit.specs.Guarding.{are_small_variables}
use Rattle.int_fit.proofs.Guarded.{guarded_inside, guarded_is_body}
use Rattle.int_fit.proofs.guarding.guard.Goals as goal

pub invariant_of-result : goal.invariant_of-result
invariant_of-result c =
    let old = c.args.program in
    let same = sym (c.in_ok-body.ensures ∙ ap (λ (test : Expression). sequence (if_else test (statements old.body) empty) empty)
    (c.in_ok-test.ensures ∙ ap are_small_variables c.vars.ensures)) in record {
      valid = record {
        few = old.valid.few;
        distinct = old.valid.distinct;
        well_sorted = subst (IsBody (length old.names)) same (guarded_is_body (length old.names) (statements old.body) old.valid.well_sorted);
        inside = subst (IsInside false) same (guarded_inside (length old.names) (statements old.body) old.valid.inside);
      };
    }
